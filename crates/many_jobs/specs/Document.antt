-- The lines of many jobs, with what a document has round them.
use Rattle.std.specs.Prelude.{◌≡◌, ◌⊎◌, ℕ, List, [], if◌then◌else◌}
use Rattle.streams.specs.declared.error.Error.{Error}
use Rattle.streams.specs.declared.error.Error.TheVariants.{Memory, Write}
use Rattle.streams.specs.Outlet.{OutletState, Adds, AddsFront}
use Rattle.streams.specs.Source.{SourceState}
use Rattle.job_reports.specs.Groups.{Groups}
use Rattle.job_rows.specs.Document.{document_end, document_start}
use Rattle.many_jobs.specs.JobChecks.{TellsAll, TellsFront, Work, work}
use Rattle.many_jobs.specs.Telling.{HowTold, is_html}
use Rattle.many_jobs.specs.declared.ending.Ending.{Ending}
use Rattle.many_jobs.specs.declared.telling.Format.{Format}

-- what stands before all lines, and behind them; the names are those of the printers
abbrev pub start_text : Format → List (List ℕ) → List ℕ
start_text format names = if is_html format then document_start names else []

abbrev pub end_text : Format → List ℕ
end_text format = if is_html format then document_end else []

-- there was no memory for a text, and nothing was written; or a front of it was
abbrev pub CutsText : Error → List ℕ → OutletState → OutletState → Type 0
CutsText Memory text out out' = out' ≡ out
CutsText Write text out out' = AddsFront out out' text
CutsText _ text out out' = ⊥

-- all of it stands there: what stands before the lines, these, and what stands behind them
pub record TellsDocument (groups : Groups) (telling : HowTold) (due : List (List ℕ × ℕ)) (start : List ℕ → SourceState)
    (ending : Ending) (old new : Work) : Type 0 where
  pub behind_start : OutletState
  pub behind : OutletState
  pub begun : Adds old.out behind_start (start_text telling.format groups.names)
  pub lines : TellsAll groups telling due start ending (work behind_start old.ended) (work behind new.ended)
  pub closed : Adds behind new.out (end_text telling.format)

-- it stopped before the first line, among the lines, or behind the last one
abbrev pub TellsDocumentFront : Groups → HowTold → (List ℕ → SourceState) → List (List ℕ × ℕ) → Work → Work → Type 0
TellsDocumentFront groups telling start due old new =
    let first = start_text telling.format groups.names in
    (AddsFront old.out new.out first × (new.ended ≡ old.ended))
    ⊎ (((behind_start : OutletState) × Adds old.out behind_start first
    × TellsFront groups telling start due (work behind_start old.ended) new)
    ⊎ ((ending : Ending) × (behind_start : OutletState) × (behind : OutletState) × Adds old.out behind_start first
    × TellsAll groups telling due start ending (work behind_start old.ended) (work behind new.ended)
    × AddsFront behind new.out (end_text telling.format)))
