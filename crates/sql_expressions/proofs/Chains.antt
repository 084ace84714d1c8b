-- Operands read one behind the other, as the loop over operators reads them.
use Rattle.std.proofs.Common.{◌≡◌, ℕ, zero, suc, ◌<◌, List, length, Some, Result, Ok, Err, refl, sym, ◌∙◌, arith}
use Rattle.std.specs.Prelude.{max}
use Rattle.std.proofs.lemmas.List.{length-map}
use Rattle.sql_syntax.specs.declared.token.Lexeme.{Lexeme}
use Rattle.sql_syntax.specs.declared.strength.Level.{Level}
use Rattle.sql_syntax.specs.declared.strength.Operator.{Operator}
use Rattle.sql_syntax.specs.Strength.{node_of}
use Rattle.sql_syntax.specs.Tokens.{Terminal, terminal_of}
use Rattle.sql_expressions.specs.declared.parsed.Parsed.{Parsed}
use Rattle.sql_expressions.specs.declared.stop.Stop.{Stop}
use Rattle.sql_expressions.specs.declared.stop.Stop.TheVariants as stop
use Rattle.sql_expressions.specs.Rules.{Reader, Stops, terms, first_is, operator_of, node, more_of, chain_of}

pub length_terms : (ls : List Lexeme) → length (terms ls) ≡ length ls
length_terms ls = length-map ls (λ (l : Lexeme). terminal_of l.token)

-- what stops a part stops the whole
pub stops_both : {A B : Type 0} (returned : Stop) (part : Result A Stop) (all : Result B Stop) → Stops returned part → ((reason : Stop) → part ≡ Err reason → all ≡ Err reason) → Stops returned all
stops_both stop.Memory part all s f = tt
stops_both stop.TooDeep part all s f = f stop.TooDeep s
stops_both (stop.At left) part all s f = f (stop.At left) s

abbrev pub Left : ℕ → Level → Reader → List Lexeme → Parsed → List Lexeme → Type 0
Left most l operand all a rest = (length rest < length all) × (m : ℕ) × (length rest < m) × (more_of m most l operand a (terms rest) ≡ chain_of most l operand (terms all))

pub chain_begins : (most : ℕ) (l : Level) (operand : Reader) (all : List Lexeme) (a : Parsed) (rest : List Lexeme) → operand (terms all) ≡ Ok (a, terms rest) → length rest < length all → Left most l operand all a rest
chain_begins most l operand all a rest reads h =
    let same : length (terms rest) ≡ length rest = length_terms rest in
    let enough : length rest < suc (length (terms rest)) = omega arith in
    (h, suc (length (terms rest)), enough, rw reads refl)

pub operand_stops : (m most : ℕ) (l : Level) (operand : Reader) (a : Parsed) (rest : List Terminal) (o : Operator) (us : List Terminal) (all : Result (Parsed × List Terminal) Stop) (len : ℕ) → len < m
    → first_is (operator_of l) rest ≡ Some (o, us) → more_of m most l operand a rest ≡ all → (reason : Stop) → operand us ≡ Err reason → all ≡ Err reason
operand_stops zero most l operand a rest o us all len h is whole reason stops = absurd (omega arith)
operand_stops (suc m) most l operand a rest o us all len h is whole reason stops = sym whole ∙ (rw (is, stops) refl)

pub node_stops : (m most : ℕ) (l : Level) (operand : Reader) (a b : Parsed) (rest : List Terminal) (o : Operator) (us behind : List Terminal) (all : Result (Parsed × List Terminal) Stop) (len : ℕ) → len < m
    → first_is (operator_of l) rest ≡ Some (o, us) → more_of m most l operand a rest ≡ all → operand us ≡ Ok (b, behind) → (reason : Stop) → node most (max a.depth b.depth) (node_of o a.expr b.expr) ≡ Err reason → all ≡ Err reason
node_stops zero most l operand a b rest o us behind all len h is whole reads reason stops = absurd (omega arith)
node_stops (suc m) most l operand a b rest o us behind all len h is whole reads reason stops = sym whole ∙ (rw (is, reads, stops) refl)

goes : (m most : ℕ) (l : Level) (operand : Reader) (a b c : Parsed) (rest : List Terminal) (o : Operator) (us behind : List Terminal) (all : Result (Parsed × List Terminal) Stop) (len : ℕ) → len < m
    → first_is (operator_of l) rest ≡ Some (o, us) → more_of m most l operand a rest ≡ all → operand us ≡ Ok (b, behind) → node most (max a.depth b.depth) (node_of o a.expr b.expr) ≡ Ok c
    → (m2 : ℕ) × (m ≡ suc m2) × (more_of m2 most l operand c behind ≡ all)
goes zero most l operand a b c rest o us behind all len h is whole reads made = absurd (omega arith)
goes (suc m) most l operand a b c rest o us behind all len h is whole reads made = (m, refl, whole_of ∙ whole)
  where
    whole_of : more_of m most l operand c behind ≡ more_of (suc m) most l operand a rest
    whole_of = sym (rw (is, reads, made) refl)

pub chain_goes_on : (most : ℕ) (l : Level) (operand : Reader) (all : List Lexeme) (a b c : Parsed) (rest us behind : List Lexeme) (o : Operator) → Left most l operand all a rest
    → first_is (operator_of l) (terms rest) ≡ Some (o, terms us) → length us < length rest → operand (terms us) ≡ Ok (b, terms behind) → length behind < length us
    → node most (max a.depth b.depth) (node_of o a.expr b.expr) ≡ Ok c → Left most l operand all c behind
chain_goes_on most l operand all a b c rest us behind o (h, m, enough, whole) is fewer reads fewer_again made =
    let next = goes m most l operand a b c (terms rest) o (terms us) (terms behind) (chain_of most l operand (terms all)) (length rest) enough is whole reads made in
    let steps : m ≡ suc next.0 = next.1 in
    let left : length behind < length all = omega arith in
    let some : length behind < next.0 = omega arith in
    (left, next.0, some, next.2)
