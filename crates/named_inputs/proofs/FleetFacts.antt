-- Lemmas on fleets.
use Rattle.std.proofs.Common.{false, ◌≡◌, ◌≢◌, ◌<◌, ◌≤◌, ◌+◌, suc, ℕ, List, [], ◌∷◌, ◌++◌, map, take, drop, length, get_or, Option, Some}
use Rattle.std.proofs.Common.{append-nil, append_assoc, refl, sym, ◌∙◌, ap, subst, arith, Ok}
use Rattle.std.proofs.Math.Seq.{split_at}
use Rattle.std.proofs.lemmas.List.{map_more, map-append, length-map, length-take, take_all}
use Rattle.device_profile.specs.declared.fault.ProfileFault.{ProfileFault}
use Rattle.device_profile.specs.declared.fault.ProfileFault.TheVariants.{Fault, Memory as NoMemory}
use Rattle.device_profile.specs.Printer.{Printer}
use Rattle.device_profile.specs.Text.{IsErrorOfText, printer_of_text}
use Rattle.streams.specs.declared.error.Error.TheVariants.{Memory, Read, Write, Turns, NoProfile, Items}
use Rattle.requests.specs.declared.status.Status.{Status}
use Rattle.requests.specs.declared.status.Status.TheVariants.{Pass, Fail, Help, Usage, Overwrites, NotAllowed, Told, Profile, Stopped}
use Rattle.requests.specs.Status.{is_stop_of_write, refusal_of}
use Rattle.named_inputs.specs.Fleet.{Describes, DescribeBy, DescribeFleet, IsReached, IsRefused, IsEndOfProfile, IsEndOfFleet, RefusesBy}
use Rattle.named_inputs.specs.Fleet.{RefusesRead}
use Rattle.named_inputs.specs.Texts.{AsksInOrder}

-- one more text describes one more printer
DescribeFleet-more : (texts : List (Option (List ℕ))) (printers : List Printer) (text : Option (List ℕ)) (printer : Printer) →
    DescribeFleet texts printers → Describes text printer → DescribeFleet (texts ++ text ∷ []) (printers ++ printer ∷ [])
DescribeFleet-more [] [] text printer before more = (more, tt)
DescribeFleet-more [] (p ∷ printers) text printer before more = absurd before
DescribeFleet-more (t ∷ texts) [] text printer before more = absurd before
DescribeFleet-more (t ∷ texts) (p ∷ printers) text printer before more =
    (before.0, DescribeFleet-more texts printers text printer before.1 more)

-- where a text is, a printer is
pub DescribeFleet-some : {X : Type 0} (f : X → Option (List ℕ)) (words : List X) (printers : List Printer) →
    DescribeFleet (map f words) printers → words ≢ [] → printers ≢ []
DescribeFleet-some f [] printers described some = absurd (some refl)
DescribeFleet-some f (word ∷ words) [] described some = absurd described
DescribeFleet-some f (word ∷ words) (printer ∷ printers) described some = λ e. absurd (omega (arith, ap length e))

-- the texts of all words are described
pub DescribeFleet-all : {X : Type 0} (f : X → Option (List ℕ)) (words : List X) (i : ℕ) (printers : List Printer) →
    DescribeFleet (map f (take i words)) printers → length words ≤ i → DescribeFleet (map f words) printers
DescribeFleet-all f words i printers described all = subst (λ ws. DescribeFleet (map f ws) printers) (take_all i words all) described

-- the text of one more word describes one more printer
pub DescribeFleet-next : {X : Type 0} (start now : List ℕ → Option (List ℕ)) (bytes : X → List ℕ) (words : List X) (i : ℕ) (d : X)
    (printers : List Printer) (printer : Printer) → i < length words → now ≡ start →
    DescribeFleet (map (λ word. start (bytes word)) (take i words)) printers → Describes (now (bytes (get_or words i d))) printer →
    DescribeFleet (map (λ word. start (bytes word)) (take (i + 1) words)) (printers ++ printer ∷ [])
DescribeFleet-next start now bytes words i d printers printer h same before more =
    let text = start (bytes (get_or words i d)) in
    subst (λ texts. DescribeFleet texts (printers ++ printer ∷ [])) (sym (map_more (λ word. start (bytes word)) words i d h))
    (DescribeFleet-more (map (λ word. start (bytes word)) (take i words)) printers text printer before
    (subst (λ t. Describes (t (bytes (get_or words i d))) printer) same more))

-- the text of a word is reached
reached : {X : Type 0} (f : X → Option (List ℕ)) (words : List X) (i : ℕ) (d : X) (printers : List Printer) (P : Option (List ℕ) → Type 0) →
    i < length words →
    DescribeFleet (map f (take i words)) printers → P (f (get_or words i d)) → IsReached (map f words) (i + 1) P
reached f words i d printers P h before holds = record {
  texts_before = map f (take i words);
  text = f (get_or words i d);
  after = map f (drop (suc i) words);
  in_order = ap (map f) (split_at words i d h) ∙ map-append f (take i words) (get_or words i d ∷ drop (suc i) words);
  number_is = omega (arith, length-map (take i words) f, length-take i words);
  printers = printers;
  accepted = before;
  holds = holds;
}

-- a profile that is not had is the end of the fleet
end_reached : {X : Type 0} (f : X → Option (List ℕ)) (words : List X) (i : ℕ) (d : X) (printers : List Printer) (status : Status) →
    i < length words →
    DescribeFleet (map f (take i words)) printers → IsEndOfProfile (i + 1) (f (get_or words i d)) status → IsEndOfFleet (map f words) status
end_reached f words i d printers (Profile number line cause) h before end =
    subst (λ n. IsReached (map f words) n (IsRefused line cause)) (sym end.0)
    (reached f words i d printers (IsRefused line cause) h before end.1)
end_reached f words i d printers (Stopped Memory) h before end = tt
end_reached f words i d printers (Stopped Read) h before end = (i + 1, reached f words i d printers _ h before tt)
end_reached f words i d printers (Stopped Write) h before end = absurd end
end_reached f words i d printers (Stopped Turns) h before end = absurd end
end_reached f words i d printers (Stopped NoProfile) h before end = absurd end
end_reached f words i d printers (Stopped Items) h before end = absurd end
end_reached f words i d printers Pass h before end = absurd end
end_reached f words i d printers Fail h before end = absurd end
end_reached f words i d printers Help h before end = absurd end
end_reached f words i d printers Usage h before end = absurd end
end_reached f words i d printers (Overwrites input) h before end = absurd end
end_reached f words i d printers (NotAllowed choice) h before end = absurd end
end_reached f words i d printers (Told trouble) h before end = absurd end

pub fleet_ends : {X : Type 0} (start now : List ℕ → Option (List ℕ)) (bytes : X → List ℕ) (words : List X) (i : ℕ) (d : X)
    (printers : List Printer) (status : Status) → i < length words → now ≡ start →
    DescribeFleet (map (λ word. start (bytes word)) (take i words)) printers →
    IsEndOfProfile (i + 1) (now (bytes (get_or words i d))) status →
    IsEndOfFleet (map (λ word. start (bytes word)) words) status
fleet_ends start now bytes words i d printers status h same before end =
    end_reached (λ word. start (bytes word)) words i d printers status h before
    (subst (λ t. IsEndOfProfile (i + 1) (t (bytes (get_or words i d))) status) same end)

DescribeFleet-append : (texts later : List (Option (List ℕ))) (printers others : List Printer) → DescribeFleet texts printers →
    DescribeFleet later others → DescribeFleet (texts ++ later) (printers ++ others)
DescribeFleet-append [] later [] others first second = second
DescribeFleet-append [] later (p ∷ printers) others first second = absurd first
DescribeFleet-append (t ∷ texts) later [] others first second = absurd first
DescribeFleet-append (t ∷ texts) later (p ∷ printers) others first second =
    (first.0, DescribeFleet-append texts later printers others first.1 second)

-- before the first text
pub DescribeBy-none : (given : List (List ℕ)) → DescribeBy given given []
DescribeBy-none given = ([], sym (append-nil given), tt)

-- the texts of more printers
pub DescribeBy-more : (start mid after : List (List ℕ)) (printers others : List Printer) → DescribeBy start mid printers →
    DescribeBy mid after others → DescribeBy start after (printers ++ others)
DescribeBy-more start mid after printers others first second = (
  first.0 ++ second.0,
  second.1 ∙ ap (λ front. front ++ second.0) first.1 ∙ append_assoc start first.0 second.0,
  subst (λ texts. DescribeFleet texts (printers ++ others)) (sym (map-append (λ text. Some text) first.0 second.0))
      (DescribeFleet-append (map (λ text. Some text) first.0) (map (λ text. Some text) second.0) printers others first.2 second.2),
)

-- one more text is kept, which describes this printer
pub kept_more : {X : Type 0} (bytes : X → List ℕ) (old new : List X) (text : X) (printer : Printer) → new ≡ old ++ text ∷ [] →
    printer_of_text (bytes text) ≡ Ok printer → DescribeBy (map bytes old) (map bytes new) (printer ∷ [])
kept_more bytes old new text printer push is =
    (bytes text ∷ [], ap (map bytes) push ∙ map-append bytes old (text ∷ []), (is, tt))

-- each text describes one printer
described_count : (texts : List (Option (List ℕ))) (printers : List Printer) → DescribeFleet texts printers → length texts ≡ length printers
described_count [] [] described = refl
described_count [] (p ∷ printers) described = absurd described
described_count (t ∷ texts) [] described = absurd described
described_count (t ∷ texts) (p ∷ printers) described = omega (arith, described_count texts printers described.1)

-- a fault in a text that was read is why its profile is refused
pub read_is_refused : (old new : List (List ℕ)) (text : List ℕ) (number : ℕ) (fault : ProfileFault) (status : Status) →
    new ≡ old ++ text ∷ [] → IsErrorOfText text fault → status ≡ refusal_of number fault → RefusesRead old new number status
read_is_refused old new text number (Fault line cause) status read refused is =
    subst (RefusesRead old new number) (sym is) (refl, text, read, refused)
read_is_refused old new text number NoMemory status read refused is = subst (RefusesRead old new number) (sym is) tt

-- behind texts that describe printers
behind_described : (start mid after : List (List ℕ)) (printers : List Printer) (i : ℕ) (status : Status) → DescribeBy start mid printers →
    length printers ≡ i → RefusesRead mid after (i + 1) status → RefusesBy start after status
behind_described start mid after printers i (Profile number line cause) described count refused = record {
  texts_before = described.0;
  text = refused.1;
  read = refused.2 ∙ ap (λ front. front ++ refused.1 ∷ []) described.1 ∙ append_assoc start described.0 (refused.1 ∷ []);
  number_is = omega (
    arith,
    refused.0,
    count,
    described_count (map (λ text. Some text) described.0) printers described.2,
    length-map described.0 (λ text. Some text),
  );
  printers = printers;
  accepted = described.2;
  refused = refused.3;
}
behind_described start mid after printers i (Stopped error) described count refused = tt
behind_described start mid after printers i Pass described count refused = tt
behind_described start mid after printers i Fail described count refused = tt
behind_described start mid after printers i Help described count refused = tt
behind_described start mid after printers i Usage described count refused = tt
behind_described start mid after printers i (Overwrites input) described count refused = tt
behind_described start mid after printers i (NotAllowed choice) described count refused = tt
behind_described start mid after printers i (Told trouble) described count refused = tt

-- the texts of words describe as many printers as there are words
pub refused_behind : {X : Type 0} (f : X → Option (List ℕ)) (words : List X) (i : ℕ) (start mid after : List (List ℕ))
    (printers : List Printer) (status : Status) → i < length words →
    DescribeFleet (map f (take i words)) printers → DescribeBy start mid printers → RefusesRead mid after (i + 1) status →
    RefusesBy start after status
refused_behind f words i start mid after printers status h named described refused =
    let count : length printers ≡ i =
    omega (arith, described_count (map f (take i words)) printers named, length-map (take i words) f, length-take i words) in
    behind_described start mid after printers i status described count refused

-- where there is no fleet, no write failed
pub no_write : (texts : List (Option (List ℕ))) (status : Status) → IsEndOfFleet texts status → false ≡ is_stop_of_write status
no_write texts (Profile number line cause) end = refl
no_write texts (Stopped Memory) end = refl
no_write texts (Stopped Read) end = refl
no_write texts (Stopped Write) end = absurd end
no_write texts (Stopped Turns) end = absurd end
no_write texts (Stopped NoProfile) end = absurd end
no_write texts (Stopped Items) end = absurd end
no_write texts Pass end = refl
no_write texts Fail end = refl
no_write texts Help end = refl
no_write texts Usage end = refl
no_write texts (Overwrites input) end = refl
no_write texts (NotAllowed choice) end = refl
no_write texts (Told trouble) end = refl

-- where a profile is not had, no write failed
pub no_write_before : (number : ℕ) (text : Option (List ℕ)) (status : Status) → IsEndOfProfile number text status →
    false ≡ is_stop_of_write status
no_write_before number text (Profile refused line cause) end = refl
no_write_before number text (Stopped Memory) end = refl
no_write_before number text (Stopped Read) end = refl
no_write_before number text (Stopped Write) end = absurd end
no_write_before number text (Stopped Turns) end = absurd end
no_write_before number text (Stopped NoProfile) end = absurd end
no_write_before number text (Stopped Items) end = absurd end
no_write_before number text Pass end = refl
no_write_before number text Fail end = refl
no_write_before number text Help end = refl
no_write_before number text Usage end = refl
no_write_before number text (Overwrites input) end = refl
no_write_before number text (NotAllowed choice) end = refl
no_write_before number text (Told trouble) end = refl

-- ---- the words that were asked for

-- one more word
pub named_more : {X : Type 0} (bytes : X → List ℕ) (words : List X) (i : ℕ) (d : X) (start mid after : List (List ℕ)) →
    i < length words → mid ≡ start ++ map bytes (take i words) → after ≡ mid ++ bytes (get_or words i d) ∷ [] →
    after ≡ start ++ map bytes (take (i + 1) words)
named_more bytes words i d start mid after h before more =
    let word = bytes (get_or words i d) in
    more
    ∙ (ap (λ (front : List (List ℕ)). front ++ word ∷ []) before
    ∙ (append_assoc start (map bytes (take i words)) (word ∷ [])
    ∙ ap (λ (l : List (List ℕ)). start ++ l) (sym (map_more bytes words i d h))))

-- it is the last one
pub named_front : {X : Type 0} (bytes : X → List ℕ) (words : List X) (i : ℕ) (d : X) (start mid after : List (List ℕ)) →
    i < length words → mid ≡ start ++ map bytes (take i words) → after ≡ mid ++ bytes (get_or words i d) ∷ [] →
    AsksInOrder (map bytes words) start after
named_front bytes words i d start mid after h before more =
    let word = bytes (get_or words i d) in
    let front = map bytes (take i words) in
    let later = map bytes (drop (suc i) words) in (
      front ++ word ∷ [],
      later,
      ap (map bytes) (split_at words i d h)
          ∙ (map-append bytes (take i words) (get_or words i d ∷ drop (suc i) words) ∙ sym (append_assoc front (word ∷ []) later)),
      more ∙ (ap (λ (l : List (List ℕ)). l ++ word ∷ []) before ∙ append_assoc start front (word ∷ [])),
    )

-- all were asked for
pub named_all : {X : Type 0} (bytes : X → List ℕ) (words : List X) (i : ℕ) (start after : List (List ℕ)) →
    after ≡ start ++ map bytes (take i words) → length words ≤ i → AsksInOrder (map bytes words) start after
named_all bytes words i start after before all =
    let front = map bytes (take i words) in
    (front, [], ap (map bytes) (sym (take_all i words all)) ∙ sym (append-nil front), before)
