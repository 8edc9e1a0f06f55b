-- Which files were read and which were written, by the paths that they were asked for at, and what looks found.
-- A job of many has its name for a path; under `-` that is standard input.
use Rattle.std.specs.Prelude.{ℕ, List, Bool, None, Option, Some, if◌then◌else◌, option_map}
use Rattle.std.specs.List.{concat}
use Rattle.streams.specs.declared.used.FileEnd.{FileEnd}
use Rattle.streams.specs.Ended.{JobRead}
use Rattle.streams.specs.Outlet.{OutletState}
use Rattle.streams.specs.Source.{SourceState}

-- what was done with the file at a path: what its reads gave, piece by piece, or what its writes took;
-- whether a read, or a write, has failed, as where it could not be opened, or created;
-- and whether what the writes took was put in its place;
-- or the texts that these words name, as far as they were asked for, one after another, and whether a read failed;
-- or a look that found what it looked for: a folder that the system does not enter, or one plain file at two paths
pub data FileUse : Type 0 where
  ReadAt : (path : List ℕ) (given : List (List ℕ)) (failed : Bool) → FileUse
  WrittenAt : (path taken : List ℕ) (failed put : Bool) → FileUse
  TextsAt : (words texts : List (List ℕ)) (failed : Bool) → FileUse
  NotEntered : (folder : List ℕ) → FileUse
  SameFile : (path other : List ℕ) → FileUse

-- it was read, and came to this
abbrev pub read_at : List ℕ → SourceState → FileUse
read_at path source = ReadAt path source.given source.failed

-- so of a job, at the path that its name is
abbrev pub read_of_job : JobRead → FileUse
read_of_job job = read_at job.name job.state

-- it was written, and came to this, which was put in its place or was not
abbrev pub written_at : List ℕ → OutletState → Bool → FileUse
written_at path outlet put = WrittenAt path outlet.taken outlet.failed put

-- a look at one path, or at two
abbrev pub look_of : (path : List ℕ) → (other : Option (List ℕ)) → FileUse
look_of path None = NotEntered path
look_of path (Some other) = SameFile path other

abbrev pub use_of : FileEnd → FileUse
use_of end =
    if end.is_look then look_of end.path.now (option_map (λ other. other.now) end.other)
    else (if end.are_texts then TextsAt end.words.pieces end.given.pieces end.has_failed
    else (if end.is_written then WrittenAt end.path.now (concat end.taken.pieces) end.has_failed end.is_put
    else ReadAt end.path.now end.given.pieces end.has_failed))
