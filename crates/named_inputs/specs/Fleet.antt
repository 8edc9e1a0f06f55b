-- The fleet that the texts of profiles describe.
use Rattle.std.specs.Prelude.{◌≡◌, ℕ, ◌+◌, List, [], ◌∷◌, ◌++◌, length, map, Option, Some, IfSome, Ok, Err, ⊤}
use Rattle.device_profile.specs.Printer.{Printer}
use Rattle.device_profile.specs.Text.{printer_of_text}
use Rattle.device_profile.specs.declared.fault.Cause.{Cause}
use Rattle.device_profile.specs.declared.fault.ProfileFault.TheVariants.{Fault}
use Rattle.streams.specs.declared.error.Error.TheVariants.{Memory, Read}
use Rattle.requests.specs.declared.status.Status.{Status}
use Rattle.requests.specs.declared.status.Status.TheVariants.{Profile, Stopped}

-- the text describes the printer; one that is not known may be any printer's
abbrev pub Describes : Option (List ℕ) → Printer → Type 0
Describes text printer = IfSome text (λ known. printer_of_text known ≡ Ok printer)

-- the text is refused at this line, for this cause
abbrev pub IsRefused : ℕ → Cause → Option (List ℕ) → Type 0
IsRefused line cause text = IfSome text (λ known. printer_of_text known ≡ Err (Fault line cause))

-- the texts describe these printers, in their order
abbrev pub DescribeFleet : List (Option (List ℕ)) → List Printer → Type 0
DescribeFleet [] [] = ⊤
DescribeFleet [] (printer ∷ printers) = ⊥
DescribeFleet (text ∷ texts) [] = ⊥
DescribeFleet (text ∷ texts) (printer ∷ printers) = Describes text printer × DescribeFleet texts printers

-- the texts that were read between old and new describe these printers, in their order
abbrev pub DescribeBy : List (List ℕ) → List (List ℕ) → List Printer → Type 0
DescribeBy old new printers =
    (texts : List (List ℕ)) × (new ≡ old ++ texts) × DescribeFleet (map (λ text. Some text) texts) printers

-- The text of this number, counted from 1, is reached: each one before it describes a printer. Of that text this holds.
pub record IsReached (texts : List (Option (List ℕ))) (number : ℕ) (P : Option (List ℕ) → Type 0) : Type 0 where
  pub texts_before : List (Option (List ℕ))
  pub text : Option (List ℕ)
  pub after : List (Option (List ℕ))
  pub in_order : texts ≡ texts_before ++ text ∷ after
  pub number_is : number ≡ length texts_before + 1
  pub printers : List Printer
  pub accepted : DescribeFleet texts_before printers
  pub holds : P text

-- Of the texts that were read between old and new all but the last describe printers;
-- the last is refused at this line, for this cause, and its number is their count.
pub record RefusesLast (old new : List (List ℕ)) (number line : ℕ) (cause : Cause) : Type 0 where
  pub texts_before : List (List ℕ)
  pub text : List ℕ
  pub read : new ≡ old ++ (texts_before ++ text ∷ [])
  pub number_is : number ≡ length texts_before + 1
  pub printers : List Printer
  pub accepted : DescribeFleet (map (λ text. Some text) texts_before) printers
  pub refused : printer_of_text text ≡ Err (Fault line cause)

-- where a profile is refused, no text was read behind its own
abbrev pub RefusesBy : List (List ℕ) → List (List ℕ) → Status → Type 0
RefusesBy old new (Profile number line cause) = RefusesLast old new number line cause
RefusesBy old new _ = ⊤

-- where the profile of this number is refused, its text was read, and that is what is wrong with it
abbrev pub RefusesRead : List (List ℕ) → List (List ℕ) → ℕ → Status → Type 0
RefusesRead old new number (Profile refused line cause) =
    (refused ≡ number) × (text : List ℕ) × (new ≡ old ++ text ∷ []) × (printer_of_text text ≡ Err (Fault line cause))
RefusesRead old new number _ = ⊤

-- some text is reached
abbrev pub ReachesSome : List (Option (List ℕ)) → Type 0
ReachesSome texts = (number : ℕ) × IsReached texts number (λ text. ⊤)

-- where a profile is refused, it is the first one that is, and that is what is wrong with it
abbrev pub RefusesFirst : List (Option (List ℕ)) → Status → Type 0
RefusesFirst texts (Profile number line cause) = IsReached texts number (IsRefused line cause)
RefusesFirst texts _ = ⊤

-- why there is no fleet: the first profile that is refused, no memory, or a profile that was reached and
-- could not be read
abbrev pub IsEndOfFleet : List (Option (List ℕ)) → Status → Type 0
IsEndOfFleet texts (Profile number line cause) = IsReached texts number (IsRefused line cause)
IsEndOfFleet texts (Stopped Memory) = ⊤
IsEndOfFleet texts (Stopped Read) = ReachesSome texts
IsEndOfFleet texts _ = ⊥

-- why the profile of this number is not had
abbrev pub IsEndOfProfile : ℕ → Option (List ℕ) → Status → Type 0
IsEndOfProfile number text (Profile refused line cause) = (refused ≡ number) × IsRefused line cause text
IsEndOfProfile number text (Stopped Memory) = ⊤
IsEndOfProfile number text (Stopped Read) = ⊤
IsEndOfProfile number text _ = ⊥

-- ---- one printer

-- the printer is the one of this text, where that is known, and of the text that was read
abbrev pub IsNamed : Option (List ℕ) → List (List ℕ) → List (List ℕ) → Printer → Type 0
IsNamed text given_before given_after printer = Describes text printer ×
    DescribeBy given_before given_after (printer ∷ [])

-- where the profile is refused, it is the first one, and that is what is wrong with it
abbrev pub RefusesOne : Option (List ℕ) → Status → Type 0
RefusesOne text (Profile number line cause) = (number ≡ 1) × IsRefused line cause text
RefusesOne text _ = ⊤
