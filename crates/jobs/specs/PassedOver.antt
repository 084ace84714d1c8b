-- The line that names a file which was passed over.
use Rattle.std.specs.Prelude.{ℕ, List, [], ◌∷◌, codes}
use Rattle.folders.specs.Lines.{numbered_line}

-- by the error code of its bytes
abbrev pub passed_over_line : ℕ → List ℕ → List ℕ
passed_over_line number path = numbered_line (codes "gather") number (path ∷ [])
