-- What is found of an option.
use Rattle.std.specs.Prelude.{◌≡◌, List, [], ◌∷◌}
use Rattle.command_line.specs.Words.{Word}
use Rattle.command_line.specs.declared.found.Found.{Found}
use Rattle.command_line.specs.declared.found.Found.TheVariants.{Nothing, Once, Often}

-- the values of an option: none, one, or several
abbrev pub IsFound : List Word → Found → Type 0
IsFound values Nothing = values ≡ []
IsFound values (Once value) = values ≡ value.now ∷ []
IsFound values Often = (first second : Word) × (rest : List Word) × (values ≡ first ∷ second ∷ rest)
