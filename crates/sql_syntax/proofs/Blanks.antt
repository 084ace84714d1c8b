-- What is left while blanks and comments are passed over.
use Rattle.std.proofs.Common.{ℕ, Bool, true, false, List}
use Rattle.sql_syntax.specs.Tokens.{behind_blanks, behind_line}

-- what is left, within a comment or behind it
abbrev pub left : Bool → List ℕ → List ℕ
left true bs = behind_line bs
left false bs = behind_blanks bs
