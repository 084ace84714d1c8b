-- How many bytes a row takes.
use Rattle.std.specs.Prelude.{ℕ, ◌*◌, ◌/◌, ◌%◌, ◌==◌, if◌then◌else◌, List, [], ◌++◌, codes, decimal}
use Rattle.answer_text.specs.Reading.{capped}

-- so many thousandths, with three digits behind the point
abbrev pub thousandths_text : ℕ → List ℕ
thousandths_text n = codes ", " ++ decimal (n / 1000) ++ codes "." ++ decimal (n / 100 % 10) ++ decimal (n / 10 % 10) ++ decimal (n % 10) ++ codes " a row"

-- the share of each row in these bytes, rounded down, if there are any rows; of 2^64 thousandths and more, that of fewer
abbrev pub share_text : ℕ → ℕ → List ℕ
share_text bytes rows = if rows == 0 then [] else thousandths_text (capped (bytes * 1000) / rows)
