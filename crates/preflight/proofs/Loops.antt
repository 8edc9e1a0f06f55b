-- What the loops over the items of a job make of a check.
use Rattle.std.proofs.Common.{◌≡◌, ◌∙◌, ℕ, List, Bool, true, false, IsTrue, IsFalse, refl, ap, sym, subst, Result, Ok}
use Rattle.pcl_items.specs.declared.fault.LexFault.{LexFault}
use Rattle.pcl_items.specs.declared.item.Item.{Item}
use Rattle.pcl_items.specs.Items.{view}
use Rattle.pcl_lexer.specs.declared.lexer.lexed.Lexed.{Lexed}
use Rattle.pcl_lexer.specs.declared.lexer.lexed.Lexed.TheVariants as answers
use Rattle.pcl_lexer.specs.Laws.{HasOneReading}
use Rattle.pcl_lexer.specs.Reading.{Reading}
use Rattle.pcl_lexer.specs.Lexing.State.{LexerState}
use Rattle.pcl_lexer.specs.Lexing.Meaning.{IsNext}
use Rattle.device_profile.specs.Printer.{Printer}
use Rattle.page_machine.specs.Laws.{IsWatchedAlike}
use Rattle.preflight.specs.declared.checking.Checking.{Checking}
use Rattle.preflight.specs.declared.check_state.CheckState.TheVariants.{Open}
use Rattle.judgement.specs.FailingItem.{Names}
use Rattle.preflight.specs.CheckState.{StandsBy, is_open}
use Rattle.preflight.specs.Carriers.Lockstep.{Fleet, machines_of, counts_of, Execute, GoesInStep}
use Rattle.preflight.specs.Carriers.Checking.{ExecutesThrough}
use Rattle.preflight.specs.Carriers.Loops.{MayExecute, IsFurther, ExecutesOn, ExecutesDecided}
use Rattle.preflight.proofs.Answered.{came_closed, comes_on, further as further_by_item, further_by_text, further_here, not_further}
use Rattle.preflight.proofs.Answered.{stands_behind, text_through, through_here, through_open}
use Rattle.preflight.proofs.CheckStates.{closed_on, open_by, open_is}

-- all that was executed between the one and the other went, and no item is told
pub record CheckGoesOn {A P : Type 0} (first now : Checking A P) : Type 0 where
  pub stands : now.state ≡ Open
  pub untold : now.failing_item ≡ first.failing_item
  pub further : IsFurther first.lexer now.lexer
  pub through : ExecutesThrough first.lexer now.lexer (machines_of first.machines) (machines_of now.machines) (counts_of first.machines)
      (counts_of now.machines)

module _ {A P : Type 0} (first : Checking A P) where
  pub goes_none : MayExecute first → CheckGoesOn first first
  goes_none may = record {
    stands = may.stands;
    untold = refl;
    further = not_further first.lexer;
    through = record { running = may.running; modes = may.modes; executed = λ fleet bytes h. h };
  }

  -- so more may be executed
  pub may_again : (now : Checking A P) → CheckGoesOn first now → MayExecute now
  may_again now goes = record { running = goes.through.running; modes = goes.through.modes; stands = goes.stands }

  -- nothing was executed
  pub goes_same : (mid new : Checking A P) → new ≡ mid → CheckGoesOn first mid → CheckGoesOn first new
  goes_same mid new same goes = subst (CheckGoesOn first) (sym same) goes

  -- the lexer gave nothing
  pub goes_here : (mid : Checking A P) (lexer : LexerState) → lexer ≡ mid.lexer → CheckGoesOn first mid →
      CheckGoesOn first (record mid { lexer = lexer })
  goes_here mid lexer same goes = record {
    stands = goes.stands;
    untold = goes.untold;
    further = further_here _ _ _ same goes.further;
    through = through_here _ _ _ _ _ _ _ same goes.through;
  }

  -- lines of text went, where the lexer stood so far
  pub goes_text : (mid : Checking A P) (old lexer : LexerState) (machines : Fleet) → old ≡ mid.lexer → CheckGoesOn first mid →
      IsFurther old lexer →
      ExecutesThrough old lexer (machines_of mid.machines) (machines_of machines) (counts_of mid.machines) (counts_of machines) →
      CheckGoesOn first (record mid { lexer = lexer; machines = machines })
  goes_text mid old lexer machines same goes further through = record {
    stands = goes.stands;
    untold = goes.untold;
    further = further_by_text _ _ _ _ same goes.further further;
    through = text_through _ _ _ _ _ _ _ _ _ _ same goes.through through;
  }

  -- the machines were not moved
  pub goes_unmoved : (mid : Checking A P) (machines : Fleet) → machines ≡ mid.machines → CheckGoesOn first mid →
      CheckGoesOn first (record mid { machines = machines })
  goes_unmoved mid machines same goes = record {
    stands = goes.stands;
    untold = goes.untold;
    further = goes.further;
    through =
        subst (λ (f : Fleet). ExecutesThrough first.lexer mid.lexer first.machines.machines f.machines first.machines.counts f.counts)
        (sym same) goes.through;
  }

  module _ (new : Checking A P) where
    -- nothing more stands next
    pub on_open : CheckGoesOn first new → ExecutesOn first new true
    on_open goes = record {
      came = open_by _ _ goes.stands goes.through;
      tells = sym (ap is_open goes.stands);
      untold = λ is. goes.untold;
      further = goes.further;
    }

    module _ (answer : Bool) where
      pub answered : (other : Bool) → answer ≡ other → ExecutesOn first new answer → ExecutesOn first new other
      answered other same = subst (ExecutesOn first new) same

      -- the check is still open
      pub goes_open : answer ≡ true → ExecutesOn first new answer → CheckGoesOn first new
      goes_open is ran =
          let still = sym ran.tells ∙ is in
          record {
            stands = open_is _ still;
            untold = ran.untold is;
            further = ran.further;
            through = through_open _ _ _ _ _ _ _ _ still ran.came;
          }

      -- it is open no more
      pub decided_closed : answer ≡ false → ExecutesOn first new answer → ExecutesDecided first new false
      decided_closed is ran =
          let closed = sym ran.tells ∙ is in
          record {
            came = came_closed _ _ _ _ _ _ _ _ closed ran.came;
            tells = sym closed;
            untold = λ same. absurd cc;
            ended = ran.further.ended;
            place = ran.further.place;
            goes_on = closed_on _ _ _ closed (λ failure h. tt) ran.came;
          }

      -- a loop behind what went
      pub on_behind : (mid : Checking A P) → CheckGoesOn first mid → ExecutesOn mid new answer → ExecutesOn first new answer
      on_behind mid goes ran = record {
        came = stands_behind _ _ _ _ _ _ _ _ _ _ _ goes.through goes.further.ended ran.came;
        tells = ran.tells;
        untold = λ is. ran.untold is ∙ goes.untold;
        further = further_by_text _ _ _ _ refl goes.further ran.further;
      }

      pub goes_behind : (mid : Checking A P) → CheckGoesOn first mid → answer ≡ true → ExecutesOn mid new answer → CheckGoesOn first new
      goes_behind mid goes is ran = goes_open is (on_behind mid goes ran)

      -- an item behind what went
      pub item_behind : (mid : Checking A P) → ((job : List ℕ) → HasOneReading job) →
          ((printer : Printer) (reading : Reading) → IsWatchedAlike printer reading) → (next : Result Lexed LexFault) (place : ℕ)
          (item : Item) → next ≡ Ok (answers.Item place item) → CheckGoesOn first mid → IsNext mid.lexer next new.lexer
          → answer ≡ is_open new.state → (IsFalse answer → Names new.failing_item (view item)) →
          (IsTrue answer → new.failing_item ≡ mid.failing_item)
          → StandsBy new.state (λ failed.
          GoesInStep (Execute (view item)) place (machines_of mid.machines) (machines_of new.machines) (counts_of mid.machines)
          (counts_of new.machines) failed)
          → ExecutesOn first new answer
      item_behind mid one anywhere next place item is goes read tells told untold came = record {
        came =
            comes_on _ _ _ _ _ _ _ _ _ one anywhere _ _ next place item is read goes.through goes.further.ended
            (λ closed. told (tells ∙ closed)) came;
        tells = tells;
        untold = λ open'. untold open' ∙ goes.untold;
        further = further_by_item _ _ _ next place item is read goes.further;
      }
