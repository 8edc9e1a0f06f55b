-- What looks for a file that is read, at the path of one that would be written, leave in the history of files.
use Rattle.std.specs.Prelude.{◌≡◌, ◌∷◌, ◌++◌, ℕ, List, [], Option, None, Some}
use Rattle.streams.specs.Used.{FileUse, SameFile}

-- the file of this name was found there; looks that find none leave no trace
abbrev pub Finds : (path : List ℕ) → (found : Option (List ℕ)) → List FileUse → List FileUse → Type 0
Finds path None used used' = used' ≡ used
Finds path (Some name) used used' = used' ≡ used ++ SameFile path name ∷ []
