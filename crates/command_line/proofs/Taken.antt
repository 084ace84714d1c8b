-- What a command of a certain name has.
use Rattle.std.proofs.Common.{◌≡◌, ℕ, true, if◌then◌else◌, List, [], ◌∷◌, get_or, refl, sym, ap, ◌∙◌, codes, arith, Some, None}
use Rattle.command_line.specs.Command.{IsInRange}
use Rattle.command_line.specs.Said.{HasLoad, HasNumber, HasText, HasTextOrNone, HasVector, IsOf}
use Rattle.command_line.specs.Words.{Named, Word, are_among}
use Rattle.command_line.specs.declared.commands.Command.{Command}
use Rattle.command_line.specs.declared.commands.Command.TheVariants.{Whole, Load, Work, Gather}
use Rattle.command_line.specs.declared.commands.GatherCommand.{GatherCommand}
use Rattle.command_line.specs.declared.commands.WorkCommand.{WorkCommand}

differ : (a b : Word) (i x y : ℕ) → a ≡ b → get_or a i 0 ≡ x → get_or b i 0 ≡ y → (x ≡ y → ⊥) → ⊥
differ a b i x y same is_x is_y other = other (sym is_x ∙ ap (λ w. get_or w i 0) same ∙ is_y)

pub no_such : {X : Type 0} (x : X) → None ≡ Some x → ⊥
no_such x same = cc

pub record IsThisWhole (named : List Named) (flags plain : List Word) (command : Command) : Type 0 where
  pub folder : Word
  pub query : Word
  pub rows : ℕ
  pub vector : ℕ
  pub is : command ≡ Whole folder query rows vector
  pub no_flag : flags ≡ []
  pub word : plain ≡ folder ∷ []
  pub among : are_among (codes "query" ∷ codes "rows" ∷ codes "vector" ∷ []) named ≡ true
  pub a_query : HasText (codes "query") named query
  pub a_number : HasNumber (codes "rows") named rows
  pub a_vector : HasVector named vector
  pub range : IsInRange (Whole folder query rows vector)

pub this_whole : (named : List Named) (flags plain : List Word) (command : Command) → IsOf (codes "whole") named flags plain command → IsInRange command → IsThisWhole named flags plain command
this_whole named flags plain (Whole folder query rows vector) of range = record {
  folder = folder;
  query = query;
  rows = rows;
  vector = vector;
  is = refl;
  no_flag = sym of.flags_are;
  word = sym of.words;
  among = of.among;
  a_query = of.options.0;
  a_number = of.options.1;
  a_vector = of.options.2;
  range = range;
}
this_whole named flags plain (Load folder load rows) of range = absurd (differ _ _ 0 108 119 of.is refl refl (λ no. omega (arith, no)))
this_whole named flags plain (Work command) of range = absurd (differ _ _ 1 111 104 of.is refl refl (λ no. omega (arith, no)))
this_whole named flags plain (Gather command) of range = absurd (differ _ _ 0 103 119 of.is refl refl (λ no. omega (arith, no)))

pub record IsThisLoad (named : List Named) (flags plain : List Word) (command : Command) : Type 0 where
  pub folder : Word
  pub load : ℕ
  pub rows : ℕ
  pub is : command ≡ Load folder load rows
  pub no_flag : flags ≡ []
  pub word : plain ≡ folder ∷ []
  pub among : are_among (codes "load" ∷ codes "rows" ∷ []) named ≡ true
  pub a_load : HasLoad named load
  pub a_number : HasNumber (codes "rows") named rows
  pub range : IsInRange (Load folder load rows)

pub this_load : (named : List Named) (flags plain : List Word) (command : Command) → IsOf (codes "load") named flags plain command → IsInRange command → IsThisLoad named flags plain command
this_load named flags plain (Load folder load rows) of range = record {
  folder = folder;
  load = load;
  rows = rows;
  is = refl;
  no_flag = sym of.flags_are;
  word = sym of.words;
  among = of.among;
  a_load = of.options.0;
  a_number = of.options.1;
  range = range;
}
this_load named flags plain (Whole folder query rows vector) of range = absurd (differ _ _ 0 119 108 of.is refl refl (λ no. omega (arith, no)))
this_load named flags plain (Work command) of range = absurd (differ _ _ 0 119 108 of.is refl refl (λ no. omega (arith, no)))
this_load named flags plain (Gather command) of range = absurd (differ _ _ 0 103 108 of.is refl refl (λ no. omega (arith, no)))

pub record IsThisWork (named : List Named) (flags plain : List Word) (command : Command) : Type 0 where
  pub work : WorkCommand
  pub is : command ≡ Work work
  pub no_flag : flags ≡ []
  pub word : plain ≡ work.folder ∷ []
  pub among : are_among (codes "query" ∷ codes "fragment" ∷ codes "out" ∷ codes "vector" ∷ []) named ≡ true
  pub a_query : HasText (codes "query") named work.query
  pub a_number : HasNumber (codes "fragment") named work.fragment
  pub a_path : HasText (codes "out") named work.out
  pub a_vector : HasVector named work.vector
  pub range : IsInRange (Work work)

pub this_work : (named : List Named) (flags plain : List Word) (command : Command) → IsOf (codes "work") named flags plain command → IsInRange command → IsThisWork named flags plain command
this_work named flags plain (Work work) of range = record {
  work = work;
  is = refl;
  no_flag = sym of.flags_are;
  word = sym of.words;
  among = of.among;
  a_query = of.options.0;
  a_number = of.options.1;
  a_path = of.options.2;
  a_vector = of.options.3;
  range = range;
}
this_work named flags plain (Whole folder query rows vector) of range = absurd (differ _ _ 1 104 111 of.is refl refl (λ no. omega (arith, no)))
this_work named flags plain (Load folder load rows) of range = absurd (differ _ _ 0 108 119 of.is refl refl (λ no. omega (arith, no)))
this_work named flags plain (Gather command) of range = absurd (differ _ _ 0 103 119 of.is refl refl (λ no. omega (arith, no)))

pub record IsThisGather (named : List Named) (flags plain : List Word) (command : Command) : Type 0 where
  pub gather : GatherCommand
  pub is : command ≡ Gather gather
  pub a_flag : flags ≡ (if gather.preview then codes "preview" ∷ [] else [])
  pub words : plain ≡ gather.folder ∷ gather.files
  pub among : are_among (codes "query" ∷ codes "save" ∷ codes "journal" ∷ []) named ≡ true
  pub a_query : HasText (codes "query") named gather.query
  pub a_state : HasTextOrNone (codes "save") named gather.save
  pub a_journal : HasTextOrNone (codes "journal") named gather.journal
  pub range : IsInRange (Gather gather)

pub this_gather : (named : List Named) (flags plain : List Word) (command : Command) → IsOf (codes "gather") named flags plain command → IsInRange command → IsThisGather named flags plain command
this_gather named flags plain (Gather gather) of range = record {
  gather = gather;
  is = refl;
  a_flag = sym of.flags_are;
  words = sym of.words;
  among = of.among;
  a_query = of.options.0;
  a_state = of.options.1;
  a_journal = of.options.2;
  range = range;
}
this_gather named flags plain (Whole folder query rows vector) of range = absurd (differ _ _ 0 119 103 of.is refl refl (λ no. omega (arith, no)))
this_gather named flags plain (Load folder load rows) of range = absurd (differ _ _ 0 108 103 of.is refl refl (λ no. omega (arith, no)))
this_gather named flags plain (Work command) of range = absurd (differ _ _ 0 119 103 of.is refl refl (λ no. omega (arith, no)))
