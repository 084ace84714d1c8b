-- Three-valued truth.
use Rattle.std.specs.Prelude.{Bool, true, false, if◌then◌else◌}
use Rattle.meaning.specs.declared.outcome.Truth.{Truth}
use Rattle.meaning.specs.declared.outcome.Truth.TheVariants.{True, False, Unknown}

-- NOT
abbrev pub not3 : Truth → Truth
not3 True = False
not3 False = True
not3 Unknown = Unknown

-- AND: FALSE with anything is FALSE
abbrev pub and3 : Truth → Truth → Truth
and3 False u = False
and3 True u = u
and3 Unknown False = False
and3 Unknown True = Unknown
and3 Unknown Unknown = Unknown

-- OR: TRUE with anything is TRUE
abbrev pub or3 : Truth → Truth → Truth
or3 True u = True
or3 False u = u
or3 Unknown True = True
or3 Unknown False = Unknown
or3 Unknown Unknown = Unknown

-- a test that is never UNKNOWN
abbrev pub known : Bool → Truth
known test = if test then True else False

-- what ON, WHERE, HAVING and WHEN take
abbrev pub is_true : Truth → Bool
is_true True = true
is_true Unknown = false
is_true False = false
