-- What may still be opened.
use Rattle.std.proofs.Common.{◌≡◌, ℕ, zero, suc, ◌-◌, ◌<◌, List, Err, refl, arith}
use Rattle.sql_syntax.specs.Tokens.{Terminal}
use Rattle.sql_syntax.specs.declared.strength.Level.{Level}
use Rattle.sql_expressions.specs.declared.stop.Stop.TheVariants as stop
use Rattle.sql_expressions.specs.Rules.{inner_at, rule_at}

pub inner_none : (most n : ℕ) (l : Level) (ts : List Terminal) → n ≡ 0 → inner_at most n l ts ≡ Err stop.TooDeep
unfolding inner_at
inner_none most zero l ts h = refl
inner_none most (suc n) l ts h = absurd (omega arith)

pub inner_more : (most n : ℕ) (l : Level) (ts : List Terminal) → 0 < n → inner_at most n l ts ≡ rule_at most (n - 1) l ts
unfolding inner_at
inner_more most zero l ts h = absurd (omega arith)
inner_more most (suc n) l ts h = let e : suc n - 1 ≡ n = omega arith in rw e refl
