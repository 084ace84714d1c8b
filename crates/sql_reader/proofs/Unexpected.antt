-- Where reading stops at a token, it is the first that isn't expected.
use Rattle.std.proofs.Common.{◌≡◌, ℕ, suc, ◌+◌, ◌-◌, ◌<◌, List, [], ◌∷◌, ◌++◌, length, take, drop, Result, Ok, Err, refl, sym, ap, ◌∙◌, subst, arith, append_assoc, length-append}
use Rattle.std.specs.Prelude.{max}
use Rattle.std.proofs.lemmas.List.{append-nil, length-map, take-append-drop}
use Rattle.sql_syntax.specs.declared.tree.Query.{Query}
use Rattle.sql_syntax.specs.Tokens.{Terminal, Located, terminals}
use Rattle.sql_syntax.specs.Queries.{SpellsQuery, open_in_query, query_depth}
use Rattle.sql_expressions.specs.declared.stop.Stop.{Stop}
use Rattle.sql_expressions.specs.declared.stop.Stop.TheVariants as stop
use Rattle.sql_expressions.specs.Rules.{◌>>=◌, inner_at}
use Rattle.sql_reader.specs.declared.fault.SqlFault.{SqlFault}
use Rattle.sql_reader.specs.Rules.{query_at, within}
use Rattle.sql_reader.specs.Grammar.{IsBeginning, IsUnexpected, IsFirstUnexpected, refusal_at, refusal_of}
use Rattle.sql_expressions.proofs.Local.{IsSameAhead, at_end, at_token, Alike, here, there, Outcome, Agrees, beyond, reads, stops, IsBeyond}
use Rattle.sql_reader.proofs.LocalQuery.{local_query}
use Rattle.sql_reader.proofs.CompleteQuery.{complete_query}
use Rattle.sql_reader.proofs.BegunQuery.{query_begun}

-- ---- tokens that no query has there

alike_behind : (front f g : List Terminal) → Alike f g (front ++ f) (front ++ g)
alike_behind [] f g = here
alike_behind (t ∷ front) f g = there t (alike_behind front f g)

-- what stops in front of tokens isn't read where the limits are greater
never_read : (f g : List Terminal) (r s : Outcome Query) (q : Query) → Agrees Query f g r s → r ≡ Err (stop.At (length f)) → s ≡ Ok (q, []) → ⊥
never_read f g r s q (beyond b) stopped read = let less : length f < length f = subst (λ (x : Outcome Query). IsBeyond f x) stopped b in omega (arith, less)
never_read f g r s q (reads x u) stopped read = absurd cc stopped
never_read f g r s q (stops u) stopped read = absurd cc read

unread : (front f g : List Terminal) (q : Query) → IsSameAhead f g → query_at within (front ++ f) ≡ Err (stop.At (length f)) → SpellsQuery (front ++ g) q → ⊥
unread front f g q ahead stopped s =
    let most : ℕ = max 128 (query_depth q) in
    let n : ℕ = max 257 (suc (open_in_query s)) in
    let read : query_at (inner_at most n) (front ++ g) ≡ Ok q = complete_query s most n (omega arith) (omega arith) in
    let l = local_query f g ahead 128 most (omega arith) 257 n (omega arith) in
    never_read f g (query_at within (front ++ f) >>= (λ x. Ok (x, []))) (query_at (inner_at most n) (front ++ g) >>= (λ x. Ok (x, []))) q (l.agrees (front ++ f) (front ++ g) (alike_behind front f g))
    (ap (λ (x : Result Query Stop). x >>= (λ y. Ok (y, []))) stopped) (ap (λ (x : Result Query Stop). x >>= (λ y. Ok (y, []))) read)

unexpected : (before : List Terminal) (rest : List Located) → query_at within (before ++ terminals rest) ≡ Err (stop.At (length (terminals rest))) → IsUnexpected before rest
unexpected before [] stopped = λ q s. unread before [] [] q at_end stopped (subst (λ (x : List Terminal). SpellsQuery x q) (sym (append-nil before)) s)
unexpected before (p ∷ ps) stopped = λ b.
    unread before (p.terminal ∷ terminals ps) (p.terminal ∷ b.0) b.1 (at_token p.terminal (terminals ps) b.0) stopped (subst (λ (x : List Terminal). SpellsQuery x b.1) (append_assoc before (p.terminal ∷ []) b.0) b.2)

-- ---- where the tokens lie

-- the tokens in front of the last are those of so many
front_of : (ps : List Located) (front rest : List Terminal) → terminals ps ≡ front ++ rest → (terminals (take (length front) ps) ≡ front) × (terminals (drop (length front) ps) ≡ rest)
front_of ps [] rest is = (refl, is)
front_of [] (t ∷ front) rest is = absurd cc is
front_of (p ∷ ps) (t ∷ front) rest is =
    let first : p.terminal ≡ t = cc is in
    let others : terminals ps ≡ front ++ rest = cc is in
    let found = front_of ps front rest others in
    ((λ i. first i ∷ found.0 i), found.1)

-- reading stops at the first token that isn't expected
pub first_unexpected : (end : ℕ) (ps : List Located) (left : ℕ) (returned : SqlFault) → query_at within (terminals ps) ≡ Err (stop.At left) → refusal_of end ps (stop.At left) ≡ returned → IsFirstUnexpected end ps returned
first_unexpected end ps left returned stopped reports =
    let b = query_begun (terminals ps) left stopped in
    let found = front_of ps b.front b.rest b.parts in
    let all : length ps ≡ length b.front + length b.rest = sym (length-map ps (λ (p : Located). p.terminal)) ∙ ap length b.parts ∙ length-append b.front b.rest in
    let counts : length b.rest ≡ left = b.counts in
    let index : length ps - left ≡ length b.front = omega (arith, all, counts) in
    let behind : length (terminals (drop (length b.front) ps)) ≡ left = ap length found.1 ∙ counts in
    let whole : terminals ps ≡ terminals (take (length b.front) ps) ++ terminals (drop (length b.front) ps) = b.parts ∙ (λ i. sym found.0 i ++ sym found.1 i) in
    let there : query_at within (terminals (take (length b.front) ps) ++ terminals (drop (length b.front) ps)) ≡ Err (stop.At (length (terminals (drop (length b.front) ps)))) =
    ap (query_at within) (sym whole) ∙ stopped ∙ ap (λ n. Err (stop.At n)) (sym behind) in
    record {
      front = take (length b.front) ps;
      rest = drop (length b.front) ps;
      parts = sym (take-append-drop (length b.front) ps);
      begins = subst IsBeginning (sym found.0) (b.further, b.spelled.0, b.spelled.1);
      unexpected = unexpected (terminals (take (length b.front) ps)) (drop (length b.front) ps) there;
      reports = ap (λ n. refusal_at end (drop n ps)) (sym index) ∙ reports;
    }
