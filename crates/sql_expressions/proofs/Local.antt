-- Where reading stops doesn't depend on what stands behind: of two lists of tokens that are the same up to some token, as much is read,
-- as long as no more is looked at, whatever the limits.
use Rattle.std.proofs.Common.{◌≡◌, ℕ, zero, suc, ◌+◌, ◌<◌, ◌≤◌, Bool, true, false, cond, List, [], ◌∷◌, length, Option, Some, None, Result, Ok, Err, refl, sym, subst, arith}
use Rattle.std.specs.Prelude.{max, nat_le, nat_lt}
use Rattle.std.proofs.lemmas.Bool.{ltb-true, lt-ltb}
use Rattle.sql_syntax.specs.declared.strength.Level.{Level}
use Rattle.sql_syntax.specs.declared.strength.Operator.{Operator}
use Rattle.sql_syntax.specs.Strength.{node_of}
use Rattle.sql_syntax.specs.Words.{lower}
use Rattle.sql_syntax.specs.Phrases.{undoubled}
use Rattle.sql_syntax.specs.declared.tree.Expr.{Expr}
use Rattle.sql_expressions.specs.declared.parsed.Parsed.{Parsed}
use Rattle.sql_syntax.specs.Tokens as terminal
use Rattle.sql_syntax.specs.Tokens.{Terminal}
use Rattle.sql_expressions.specs.declared.stop.Stop.{Stop}
use Rattle.sql_expressions.specs.declared.stop.Stop.TheVariants as stop
use Rattle.sql_expressions.specs.Rules as rule
use Rattle.sql_expressions.specs.Rules.{◌>>=◌, choose, behind, past, needed, stops_at, first_is, operator_of, node, then_left, more_of, Reader}

-- ---- two lists

-- the same token at the front, or no token
pub data IsSameAhead : List Terminal → List Terminal → Type 0 where
  at_end : IsSameAhead [] []
  at_token : (t : Terminal) (ts us : List Terminal) → IsSameAhead (t ∷ ts) (t ∷ us)

-- the same tokens in front of these
pub data Alike (f g : List Terminal) : List Terminal → List Terminal → Type 0 where
  here : Alike f g f g
  there : (t : Terminal) {ts us : List Terminal} → Alike f g ts us → Alike f g (t ∷ ts) (t ∷ us)

-- ---- what is read of them

abbrev pub Outcome : Type 0 → Type 0
Outcome X = Result (X × List Terminal) Stop

-- no more tokens are left than there were
abbrev pub IsWithin : {X : Type 0} → ℕ → Outcome X → Type 0
IsWithin n (Ok x) = length x.1 ≤ n
IsWithin n (Err stop.Memory) = Unit {0}
IsWithin n (Err stop.TooDeep) = Unit {0}
IsWithin n (Err (stop.At left)) = left ≤ n

-- fewer are left than these, or reading stopped at a limit
abbrev pub IsBeyond : {X : Type 0} → List Terminal → Outcome X → Type 0
IsBeyond f (Ok x) = length x.1 < length f
IsBeyond f (Err stop.Memory) = Unit {0}
IsBeyond f (Err stop.TooDeep) = Unit {0}
IsBeyond f (Err (stop.At left)) = left < length f

-- the same is read, or reading stops at the same token, unless more was looked at
pub data Agrees (X : Type 0) (f g : List Terminal) : Outcome X → Outcome X → Type 0 where
  beyond : {r s : Outcome X} → IsBeyond f r → Agrees X f g r s
  reads : (x : X) {us vs : List Terminal} → Alike f g us vs → Agrees X f g (Ok (x, us)) (Ok (x, vs))
  stops : {us vs : List Terminal} → Alike f g us vs → Agrees X f g (Err (stop.At (length us))) (Err (stop.At (length vs)))

wider : {X : Type 0} (m n : ℕ) (r : Outcome X) → IsWithin m r → m ≤ n → IsWithin n r
wider m n (Ok x) w h = omega (arith, w, h)
wider m n (Err stop.Memory) w h = tt
wider m n (Err stop.TooDeep) w h = tt
wider m n (Err (stop.At left)) w h = omega (arith, w, h)

pub within_beyond : {X : Type 0} (n : ℕ) (f : List Terminal) (r : Outcome X) → IsWithin n r → n < length f → IsBeyond f r
within_beyond n f (Ok x) w h = omega (arith, w, h)
within_beyond n f (Err stop.Memory) w h = tt
within_beyond n f (Err stop.TooDeep) w h = tt
within_beyond n f (Err (stop.At left)) w h = omega (arith, w, h)

pub within_bind : {X Y : Type 0} (n : ℕ) (r : Outcome X) (k : X × List Terminal → Outcome Y) → IsWithin n r → ((x : X × List Terminal) → IsWithin (length x.1) (k x)) → IsWithin n (r >>= k)
within_bind n (Ok x) k w h = wider (length x.1) n (k x) (h x) w
within_bind n (Err stop.Memory) k w h = tt
within_bind n (Err stop.TooDeep) k w h = tt
within_bind n (Err (stop.At left)) k w h = w

pub beyond_bind : {X Y : Type 0} (f : List Terminal) (r : Outcome X) (k : X × List Terminal → Outcome Y) → IsBeyond f r → ((x : X × List Terminal) → IsWithin (length x.1) (k x)) → IsBeyond f (r >>= k)
beyond_bind f (Ok x) k b h = within_beyond (length x.1) f (k x) (h x) b
beyond_bind f (Err stop.Memory) k b h = tt
beyond_bind f (Err stop.TooDeep) k b h = tt
beyond_bind f (Err (stop.At left)) k b h = b

pub agrees_bind : {X Y : Type 0} (f g : List Terminal) (n : ℕ) (r s : Outcome X) (k m : X × List Terminal → Outcome Y) → Agrees X f g r s → IsWithin n s → ((x : X × List Terminal) → IsWithin (length x.1) (k x))
    → ((x : X) (us vs : List Terminal) → Alike f g us vs → length vs ≤ n → Agrees Y f g (k (x, us)) (m (x, vs))) → Agrees Y f g (r >>= k) (s >>= m)
agrees_bind f g n r s k m (beyond b) w h a = beyond (beyond_bind f r k b h)
agrees_bind f g n r s k m (reads x {us} {vs} u) w h a = a x us vs u w
agrees_bind f g n r s k m (stops u) w h a = stops u

-- two readers that agree, neither of which puts tokens back
pub record Local (X : Type 0) (f g : List Terminal) (r s : List Terminal → Outcome X) : Type 0 where
  pub left : (ts : List Terminal) → IsWithin (length ts) (r ts)
  pub right : (ts : List Terminal) → IsWithin (length ts) (s ts)
  pub agrees : (ts us : List Terminal) → Alike f g ts us → Agrees X f g (r ts) (s us)

-- ---- one token

pub choose_within : {X : Type 0} (passes : Terminal → Bool) (k : List Terminal → Outcome X) (d : Outcome X) → ((ts : List Terminal) → IsWithin (length ts) (k ts)) → (ts : List Terminal) → IsWithin (length ts) d
    → IsWithin (length ts) (choose (behind passes ts) k d)
choose_within passes k d h [] w = w
choose_within passes k d h (t ∷ ts) w = turn (passes t)
  where
    turn : (b : Bool) → IsWithin (suc (length ts)) (choose (cond b (Some ts) None) k d)
    turn true = wider (length ts) (suc (length ts)) (k ts) (h ts) (omega arith)
    turn false = w

first_within : {A X : Type 0} (is : Terminal → Option A) (k : A × List Terminal → Outcome X) (d : Outcome X) → ((x : A × List Terminal) → IsWithin (length x.1) (k x)) → (ts : List Terminal) → IsWithin (length ts) d
    → IsWithin (length ts) (choose (first_is is ts) k d)
first_within is k d h [] w = w
first_within {A = A} is k d h (t ∷ ts) w = turn (is t)
  where
    turn : (o : Option A) → IsWithin (suc (length ts)) (choose (choose o (λ a. Some (a, ts)) None) k d)
    turn None = w
    turn (Some a) = wider (length ts) (suc (length ts)) (k (a, ts)) (h (a, ts)) (omega arith)

-- a token that has to be there
pub needed_is : {A X : Type 0} (o : Option A) (ts : List Terminal) (k : A → Outcome X) → (needed ts o >>= k) ≡ choose o k (stops_at ts)
needed_is None ts k = refl
needed_is (Some a) ts k = refl

needed_alone : {A : Type 0} (o : Option (A × List Terminal)) (ts : List Terminal) → needed ts o ≡ choose o (λ x. Ok x) (stops_at ts)
needed_alone None ts = refl
needed_alone (Some a) ts = refl

abbrev pub name_of : Terminal → Option (List ℕ)
name_of (terminal.name n) = Some (lower n)
name_of _ = None

abbrev pub text_of : Terminal → Option (List ℕ)
text_of (terminal.text t) = Some (undoubled t)
text_of _ = None

abbrev pub integer_of : Terminal → Option ℕ
integer_of (terminal.integer n) = cond (nat_le n 9223372036854775807) (Some n) None
integer_of _ = None

pub name_is : (ts : List Terminal) → rule.name_at ts ≡ needed ts (first_is name_of ts)
name_is [] = refl
name_is (terminal.keyword k ∷ ts) = refl
name_is (terminal.name n ∷ ts) = refl
name_is (terminal.integer n ∷ ts) = refl
name_is (terminal.text t ∷ ts) = refl
name_is (terminal.sign_is s ∷ ts) = refl
name_is (terminal.left_out w ∷ ts) = refl
name_is (terminal.out_of_range ∷ ts) = refl
name_is (terminal.not_closed ∷ ts) = refl
name_is (terminal.unknown ∷ ts) = refl

pub text_is : (ts : List Terminal) → rule.text_at ts ≡ needed ts (first_is text_of ts)
text_is [] = refl
text_is (terminal.keyword k ∷ ts) = refl
text_is (terminal.name n ∷ ts) = refl
text_is (terminal.integer n ∷ ts) = refl
text_is (terminal.text t ∷ ts) = refl
text_is (terminal.sign_is s ∷ ts) = refl
text_is (terminal.left_out w ∷ ts) = refl
text_is (terminal.out_of_range ∷ ts) = refl
text_is (terminal.not_closed ∷ ts) = refl
text_is (terminal.unknown ∷ ts) = refl

pub integer_is : (ts : List Terminal) → rule.integer_at ts ≡ needed ts (first_is integer_of ts)
integer_is [] = refl
integer_is (terminal.keyword k ∷ ts) = refl
integer_is (terminal.name n ∷ ts) = refl
integer_is (terminal.integer n ∷ ts) = turn (nat_le n 9223372036854775807)
  where
    turn : (b : Bool) → ◌≡◌ {A = Outcome ℕ} (cond b (Ok (n, ts)) (stops_at (terminal.integer n ∷ ts))) (needed (terminal.integer n ∷ ts) (choose (cond b (Some n) None) (λ a. Some (a, ts)) None))
    turn true = refl
    turn false = refl
integer_is (terminal.text t ∷ ts) = refl
integer_is (terminal.sign_is s ∷ ts) = refl
integer_is (terminal.left_out w ∷ ts) = refl
integer_is (terminal.out_of_range ∷ ts) = refl
integer_is (terminal.not_closed ∷ ts) = refl
integer_is (terminal.unknown ∷ ts) = refl

-- ---- nodes under two limits, of which the second is no less

pub data Refines : Result Parsed Stop → Result Parsed Stop → Type 0 where
  too_deep : {q : Result Parsed Stop} → Refines (Err stop.TooDeep) q
  made : (p : Parsed) → Refines (Ok p) (Ok p)

refine : (b c : Bool) (k : ℕ) (e : Expr) → (b ≡ true → c ≡ true)
    → Refines (cond b (Ok (k + 1)) (Err stop.TooDeep) >>= (λ d. Ok (record { expr = e; depth = d }))) (cond c (Ok (k + 1)) (Err stop.TooDeep) >>= (λ d. Ok (record { expr = e; depth = d })))
refine true c k e h = subst (λ (x : Bool). Refines (Ok (record { expr = e; depth = k + 1 })) (cond x (Ok (k + 1)) (Err stop.TooDeep) >>= (λ d. Ok (record { expr = e; depth = d })))) (sym (h refl)) (made (record { expr = e; depth = k + 1 }))
refine false c k e h = too_deep

pub node_refines : (most more k : ℕ) (e : Expr) → most ≤ more → Refines (node most k e) (node more k e)
node_refines most more k e h = refine (nat_lt k most) (nat_lt k more) k e (λ b. let below : k < most = ltb-true k most b in lt-ltb k more (omega arith))

pub refined_within : {X : Type 0} (n : ℕ) (p q : Result Parsed Stop) (k : Parsed → Outcome X) → Refines p q → ((x : Parsed) → IsWithin n (k x)) → IsWithin n (p >>= k)
refined_within n p q k too_deep h = tt
refined_within n p q k (made x) h = h x

pub refined_agrees : {X : Type 0} (f g : List Terminal) (p q : Result Parsed Stop) (k m : Parsed → Outcome X) → Refines p q → ((x : Parsed) → Agrees X f g (k x) (m x)) → Agrees X f g (p >>= k) (q >>= m)
refined_agrees f g p q k m too_deep h = beyond tt
refined_agrees f g p q k m (made x) h = h x

-- ---- loops

-- what is read behind tokens that pass, one after the other
pub loop_within : {B : Type 0} (passes : Terminal → Bool) (loop : ℕ → B → List Terminal → Outcome B) (step : B → List Terminal → Outcome B) → ((b : B) (ts : List Terminal) → loop zero b ts ≡ Err stop.TooDeep)
    → ((n : ℕ) (b : B) (ts : List Terminal) → loop (suc n) b ts ≡ choose (behind passes ts) (λ us. step b us >>= (λ x. loop n x.0 x.1)) (Ok (b, ts))) → ((b : B) (ts : List Terminal) → IsWithin (length ts) (step b ts))
    → (n : ℕ) (b : B) (ts : List Terminal) → IsWithin (length ts) (loop n b ts)
loop_within {B = B} passes loop step none more w zero b ts = subst (λ (x : Outcome B). IsWithin (length ts) x) (sym (none b ts)) tt
loop_within {B = B} passes loop step none more w (suc n) b ts =
    subst (λ (x : Outcome B). IsWithin (length ts) x) (sym (more n b ts))
    (choose_within passes (λ us. step b us >>= (λ x. loop n x.0 x.1)) (Ok (b, ts)) (λ us. within_bind (length us) (step b us) (λ x. loop n x.0 x.1) (w b us) (λ x. loop_within passes loop step none more w n x.0 x.1)) ts (omega arith))

-- operators, each with the operand behind it
pub operators_within : (n most : ℕ) (l : Level) (operand : Reader) → ((ts : List Terminal) → IsWithin (length ts) (operand ts)) → (a : Parsed) (ts : List Terminal) → IsWithin (length ts) (more_of n most l operand a ts)
operators_within zero most l operand w a ts = tt
operators_within (suc n) most l operand w a ts =
    first_within (operator_of l) (λ o. operand o.1 >>= (λ b. node most (max a.depth b.0.depth) (node_of o.0 a.expr b.0.expr) >>= (λ c. more_of n most l operand c b.1))) (Ok (a, ts))
    (λ o. within_bind (length o.1) (operand o.1) (λ b. node most (max a.depth b.0.depth) (node_of o.0 a.expr b.0.expr) >>= (λ c. more_of n most l operand c b.1)) (w o.1)
    (λ b. refined_within (length b.1) (node most (max a.depth b.0.depth) (node_of o.0 a.expr b.0.expr)) (node most (max a.depth b.0.depth) (node_of o.0 a.expr b.0.expr)) (λ c. more_of n most l operand c b.1) (node_refines most most (max a.depth b.0.depth) (node_of o.0 a.expr b.0.expr) (omega arith))
    (λ c. operators_within n most l operand w c b.1))) ts (omega arith)

-- ---- readers of tokens that are the same up to one that is looked at

-- behind a token lists are the same, unless it is the last that is looked at
pub taken : {X : Type 0} (f g : List Terminal) (r s : Outcome X) (t v : Terminal) (ts us : List Terminal) → Alike f g (t ∷ ts) (v ∷ us) → IsWithin (length ts) r → (Alike f g ts us → Agrees X f g r s) → Agrees X f g r s
taken _ _ r s t v ts us here w h = beyond (within_beyond (length ts) (t ∷ ts) r w (omega arith))
taken f g r s t v ts us (there _ u) w h = h u

module _ (f g : List Terminal) (ahead : IsSameAhead f g) where
  -- the same token is at the front of both
  pub heads : (ts us : List Terminal) → Alike f g ts us → IsSameAhead ts us
  heads ts us here = ahead
  heads ts us (there t u) = at_token t _ _

  pub choose_agrees : {X : Type 0} (passes : Terminal → Bool) (k m : List Terminal → Outcome X) (d e : Outcome X) → ((ts : List Terminal) → IsWithin (length ts) (k ts)) → (ts us : List Terminal) → Alike f g ts us
      → ((vs ws : List Terminal) → Alike f g vs ws → length ws < length us → Agrees X f g (k vs) (m ws)) → Agrees X f g d e → Agrees X f g (choose (behind passes ts) k d) (choose (behind passes us) m e)
  choose_agrees {X = X} passes k m d e w ts us u a other = by_head ts us (heads ts us u) u a
    where
      by_test : (b : Bool) (t : Terminal) (ts us : List Terminal) → Alike f g (t ∷ ts) (t ∷ us) → ((vs ws : List Terminal) → Alike f g vs ws → length ws < suc (length us) → Agrees X f g (k vs) (m ws))
          → Agrees X f g (choose (cond b (Some ts) None) k d) (choose (cond b (Some us) None) m e)
      by_test true t ts us u a = taken f g (k ts) (m us) t t ts us u (w ts) (λ v. a ts us v (omega arith))
      by_test false t ts us u a = other

      by_head : (ts us : List Terminal) → IsSameAhead ts us → Alike f g ts us → ((vs ws : List Terminal) → Alike f g vs ws → length ws < length us → Agrees X f g (k vs) (m ws))
          → Agrees X f g (choose (behind passes ts) k d) (choose (behind passes us) m e)
      by_head _ _ at_end u a = other
      by_head _ _ (at_token t ts us) u a = by_test (passes t) t ts us u a

  pub first_agrees : {A X : Type 0} (is : Terminal → Option A) (k m : A × List Terminal → Outcome X) (d e : Outcome X) → ((x : A × List Terminal) → IsWithin (length x.1) (k x)) → (ts us : List Terminal) → Alike f g ts us
      → ((o : A) (vs ws : List Terminal) → Alike f g vs ws → length ws < length us → Agrees X f g (k (o, vs)) (m (o, ws))) → Agrees X f g d e → Agrees X f g (choose (first_is is ts) k d) (choose (first_is is us) m e)
  first_agrees {A = A} {X = X} is k m d e w ts us u a other = by_head ts us (heads ts us u) u a
    where
      by_what : (o : Option A) (t : Terminal) (ts us : List Terminal) → Alike f g (t ∷ ts) (t ∷ us) → ((o : A) (vs ws : List Terminal) → Alike f g vs ws → length ws < suc (length us) → Agrees X f g (k (o, vs)) (m (o, ws)))
          → Agrees X f g (choose (choose o (λ a. Some (a, ts)) None) k d) (choose (choose o (λ a. Some (a, us)) None) m e)
      by_what None t ts us u a = other
      by_what (Some x) t ts us u a = taken f g (k (x, ts)) (m (x, us)) t t ts us u (w (x, ts)) (λ v. a x ts us v (omega arith))

      by_head : (ts us : List Terminal) → IsSameAhead ts us → Alike f g ts us → ((o : A) (vs ws : List Terminal) → Alike f g vs ws → length ws < length us → Agrees X f g (k (o, vs)) (m (o, ws)))
          → Agrees X f g (choose (first_is is ts) k d) (choose (first_is is us) m e)
      by_head _ _ at_end u a = other
      by_head _ _ (at_token t ts us) u a = by_what (is t) t ts us u a

  -- ---- readers made of readers

  pub local_done : {X : Type 0} (x : X) → Local X f g (λ ts. Ok (x, ts)) (λ ts. Ok (x, ts))
  local_done x = record { left = λ ts. omega arith; right = λ ts. omega arith; agrees = λ ts us u. reads x u }

  pub local_stops : {X : Type 0} → Local X f g (λ ts. stops_at ts) (λ ts. stops_at ts)
  local_stops = record { left = λ ts. omega arith; right = λ ts. omega arith; agrees = λ ts us u. stops u }

  pub local_same : {X : Type 0} (r s p q : List Terminal → Outcome X) → ((ts : List Terminal) → r ts ≡ p ts) → ((ts : List Terminal) → s ts ≡ q ts) → Local X f g p q → Local X f g r s
  local_same {X = X} r s p q first second l = record {
    left = λ ts. subst (λ (x : Outcome X). IsWithin (length ts) x) (sym (first ts)) (l.left ts);
    right = λ ts. subst (λ (x : Outcome X). IsWithin (length ts) x) (sym (second ts)) (l.right ts);
    agrees = λ ts us u. subst (λ (x : Outcome X). Agrees X f g x (s us)) (sym (first ts)) (subst (λ (x : Outcome X). Agrees X f g (p ts) x) (sym (second us)) (l.agrees ts us u));
  }

  pub local_bind : {X Y : Type 0} (r s : List Terminal → Outcome X) (k m : X × List Terminal → Outcome Y) → Local X f g r s → ((x : X) → Local Y f g (λ us. k (x, us)) (λ us. m (x, us)))
      → Local Y f g (λ ts. r ts >>= k) (λ ts. s ts >>= m)
  local_bind r s k m l h = record {
    left = λ ts. within_bind (length ts) (r ts) k (l.left ts) (λ x. (h x.0).left x.1);
    right = λ ts. within_bind (length ts) (s ts) m (l.right ts) (λ x. (h x.0).right x.1);
    agrees = λ ts us u. agrees_bind f g (length us) (r ts) (s us) k m (l.agrees ts us u) (l.right us) (λ x. (h x.0).left x.1) (λ x vs ws v short. (h x).agrees vs ws v);
  }

  pub local_choose : {X : Type 0} (passes : Terminal → Bool) (k m d e : List Terminal → Outcome X) → Local X f g k m → Local X f g d e → Local X f g (λ ts. choose (behind passes ts) k (d ts)) (λ ts. choose (behind passes ts) m (e ts))
  local_choose passes k m d e l other = record {
    left = λ ts. choose_within passes k (d ts) l.left ts (other.left ts);
    right = λ ts. choose_within passes m (e ts) l.right ts (other.right ts);
    agrees = λ ts us u. choose_agrees passes k m (d ts) (e us) l.left ts us u (λ vs ws v fewer. l.agrees vs ws v) (other.agrees ts us u);
  }

  pub local_first : {A X : Type 0} (is : Terminal → Option A) (k m : A × List Terminal → Outcome X) (d e : List Terminal → Outcome X) → ((a : A) → Local X f g (λ us. k (a, us)) (λ us. m (a, us))) → Local X f g d e
      → Local X f g (λ ts. choose (first_is is ts) k (d ts)) (λ ts. choose (first_is is ts) m (e ts))
  local_first is k m d e l other = record {
    left = λ ts. first_within is k (d ts) (λ x. (l x.0).left x.1) ts (other.left ts);
    right = λ ts. first_within is m (e ts) (λ x. (l x.0).right x.1) ts (other.right ts);
    agrees = λ ts us u. first_agrees is k m (d ts) (e us) (λ x. (l x.0).left x.1) ts us u (λ a vs ws v fewer. (l a).agrees vs ws v) (other.agrees ts us u);
  }

  pub local_past : {X : Type 0} (passes : Terminal → Bool) (k m : List Terminal → Outcome X) → Local X f g k m → Local X f g (λ ts. past passes ts >>= k) (λ ts. past passes ts >>= m)
  local_past passes k m l =
      local_same _ _ _ _ (λ ts. needed_is (behind passes ts) ts k) (λ ts. needed_is (behind passes ts) ts m) (local_choose passes k m (λ ts. stops_at ts) (λ ts. stops_at ts) l local_stops)

  local_needed : {A : Type 0} (is : Terminal → Option A) → Local A f g (λ ts. needed ts (first_is is ts)) (λ ts. needed ts (first_is is ts))
  local_needed is =
      local_same _ _ _ _ (λ ts. needed_alone (first_is is ts) ts) (λ ts. needed_alone (first_is is ts) ts) (local_first is (λ x. Ok x) (λ x. Ok x) (λ ts. stops_at ts) (λ ts. stops_at ts) (λ a. local_done a) local_stops)

  pub local_name : Local (List ℕ) f g rule.name_at rule.name_at
  local_name = local_same rule.name_at rule.name_at _ _ name_is name_is (local_needed name_of)

  pub local_text : Local (List ℕ) f g rule.text_at rule.text_at
  local_text = local_same rule.text_at rule.text_at _ _ text_is text_is (local_needed text_of)

  pub local_integer : Local ℕ f g rule.integer_at rule.integer_at
  local_integer = local_same rule.integer_at rule.integer_at _ _ integer_is integer_is (local_needed integer_of)

  pub local_made : (p q : Result Parsed Stop) → Refines p q → Refines q q → Local Parsed f g (λ ts. then_left p ts) (λ ts. then_left q ts)
  local_made p q h itself = record {
    left = λ ts. refined_within (length ts) p q (λ x. Ok (x, ts)) h (λ x. omega arith);
    right = λ ts. refined_within (length ts) q q (λ x. Ok (x, ts)) itself (λ x. omega arith);
    agrees = λ ts us u. refined_agrees f g p q (λ x. Ok (x, ts)) (λ x. Ok (x, us)) h (λ x. reads x u);
  }

  pub loop_agrees : {B : Type 0} (passes : Terminal → Bool) (loop other : ℕ → B → List Terminal → Outcome B) (step stride : B → List Terminal → Outcome B)
      → ((b : B) (ts : List Terminal) → loop zero b ts ≡ Err stop.TooDeep) → ((n : ℕ) (b : B) (ts : List Terminal) → loop (suc n) b ts ≡ choose (behind passes ts) (λ us. step b us >>= (λ x. loop n x.0 x.1)) (Ok (b, ts)))
      → ((n : ℕ) (b : B) (ts : List Terminal) → other (suc n) b ts ≡ choose (behind passes ts) (λ us. stride b us >>= (λ x. other n x.0 x.1)) (Ok (b, ts)))
      → ((b : B) → Local B f g (step b) (stride b)) → (n m : ℕ) (b : B) (ts us : List Terminal) → Alike f g ts us → length us < m → Agrees B f g (loop n b ts) (other m b us)
  loop_agrees {B = B} passes loop other step stride none more again l zero m b ts us u h = subst (λ (x : Outcome B). Agrees B f g x (other m b us)) (sym (none b ts)) (beyond tt)
  loop_agrees passes loop other step stride none more again l (suc n) zero b ts us u h = absurd (omega (arith, h))
  loop_agrees {B = B} passes loop other step stride none more again l (suc n) (suc m) b ts us u h =
      subst (λ (x : Outcome B). Agrees B f g x (other (suc m) b us)) (sym (more n b ts)) (subst (λ (x : Outcome B). Agrees B f g (choose (behind passes ts) (λ vs. step b vs >>= (λ x. loop n x.0 x.1)) (Ok (b, ts))) x) (sym (again m b us))
      (choose_agrees passes (λ vs. step b vs >>= (λ x. loop n x.0 x.1)) (λ vs. stride b vs >>= (λ x. other m x.0 x.1)) (Ok (b, ts)) (Ok (b, us))
      (λ vs. within_bind (length vs) (step b vs) (λ x. loop n x.0 x.1) ((l b).left vs) (λ x. loop_within passes loop step none more (λ b ts. (l b).left ts) n x.0 x.1)) ts us u
      (λ vs ws v fewer. agrees_bind f g (length ws) (step b vs) (stride b ws) (λ x. loop n x.0 x.1) (λ x. other m x.0 x.1) ((l b).agrees vs ws v) ((l b).right ws) (λ x. loop_within passes loop step none more (λ b ts. (l b).left ts) n x.0 x.1)
      (λ x vs2 ws2 v2 short. loop_agrees passes loop other step stride none more again l n m x vs2 ws2 v2 (omega (arith, h, fewer, short)))) (reads b u)))

  pub local_loop : {B : Type 0} (passes : Terminal → Bool) (loop other : ℕ → B → List Terminal → Outcome B) (step stride : B → List Terminal → Outcome B)
      → ((b : B) (ts : List Terminal) → loop zero b ts ≡ Err stop.TooDeep) → ((n : ℕ) (b : B) (ts : List Terminal) → loop (suc n) b ts ≡ choose (behind passes ts) (λ us. step b us >>= (λ x. loop n x.0 x.1)) (Ok (b, ts)))
      → ((b : B) (ts : List Terminal) → other zero b ts ≡ Err stop.TooDeep) → ((n : ℕ) (b : B) (ts : List Terminal) → other (suc n) b ts ≡ choose (behind passes ts) (λ us. stride b us >>= (λ x. other n x.0 x.1)) (Ok (b, ts)))
      → ((b : B) → Local B f g (step b) (stride b)) → (b : B) → Local B f g (λ ts. loop (suc (length ts)) b ts) (λ ts. other (suc (length ts)) b ts)
  local_loop passes loop other step stride none more no_other again l b = record {
    left = λ ts. loop_within passes loop step none more (λ b us. (l b).left us) (suc (length ts)) b ts;
    right = λ ts. loop_within passes other stride no_other again (λ b us. (l b).right us) (suc (length ts)) b ts;
    agrees = λ ts us u. loop_agrees passes loop other step stride none more again l (suc (length ts)) (suc (length us)) b ts us u (omega arith);
  }

  operators_agree : (n m most more : ℕ) (l : Level) (operand other : Reader) → most ≤ more → Local Parsed f g operand other → (a : Parsed) (ts us : List Terminal) → Alike f g ts us → length us < m
      → Agrees Parsed f g (more_of n most l operand a ts) (more_of m more l other a us)
  operators_agree zero m most more l operand other h lo a ts us u few = beyond tt
  operators_agree (suc n) zero most more l operand other h lo a ts us u few = absurd (omega (arith, few))
  operators_agree (suc n) (suc m) most more l operand other h lo a ts us u few =
      first_agrees (operator_of l) (λ o. operand o.1 >>= (λ b. node most (max a.depth b.0.depth) (node_of o.0 a.expr b.0.expr) >>= (λ c. more_of n most l operand c b.1)))
      (λ o. other o.1 >>= (λ b. node more (max a.depth b.0.depth) (node_of o.0 a.expr b.0.expr) >>= (λ c. more_of m more l other c b.1))) (Ok (a, ts)) (Ok (a, us))
      (λ o. within_bind (length o.1) (operand o.1) (λ b. node most (max a.depth b.0.depth) (node_of o.0 a.expr b.0.expr) >>= (λ c. more_of n most l operand c b.1)) (lo.left o.1) (λ b. joined_within o.0 b)) ts us u
      (λ o vs ws v fewer. agrees_bind f g (length ws) (operand vs) (other ws) (λ b. node most (max a.depth b.0.depth) (node_of o a.expr b.0.expr) >>= (λ c. more_of n most l operand c b.1))
      (λ b. node more (max a.depth b.0.depth) (node_of o a.expr b.0.expr) >>= (λ c. more_of m more l other c b.1)) (lo.agrees vs ws v) (lo.right ws) (λ b. joined_within o b)
      (λ b vs2 ws2 v2 short. refined_agrees f g (node most (max a.depth b.depth) (node_of o a.expr b.expr)) (node more (max a.depth b.depth) (node_of o a.expr b.expr)) (λ c. more_of n most l operand c vs2) (λ c. more_of m more l other c ws2)
      (node_refines most more (max a.depth b.depth) (node_of o a.expr b.expr) h) (λ c. operators_agree n m most more l operand other h lo c vs2 ws2 v2 (omega (arith, few, fewer, short))))) (reads a u)
    where
      joined_within : (o : Operator) (b : Parsed × List Terminal) → IsWithin (length b.1) (node most (max a.depth b.0.depth) (node_of o a.expr b.0.expr) >>= (λ c. more_of n most l operand c b.1))
      joined_within o b =
          refined_within (length b.1) (node most (max a.depth b.0.depth) (node_of o a.expr b.0.expr)) (node most (max a.depth b.0.depth) (node_of o a.expr b.0.expr)) (λ c. more_of n most l operand c b.1)
          (node_refines most most (max a.depth b.0.depth) (node_of o a.expr b.0.expr) (omega arith)) (λ c. operators_within n most l operand lo.left c b.1)

  pub local_chain : (most more : ℕ) (l : Level) (operand other : Reader) → most ≤ more → Local Parsed f g operand other → Local Parsed f g (rule.chain_of most l operand) (rule.chain_of more l other)
  local_chain most more l operand other h lo =
      local_bind operand other (λ a. more_of (suc (length a.1)) most l operand a.0 a.1) (λ a. more_of (suc (length a.1)) more l other a.0 a.1) lo (λ a. record {
        left = λ ts. operators_within (suc (length ts)) most l operand lo.left a ts;
        right = λ ts. operators_within (suc (length ts)) more l other lo.right a ts;
        agrees = λ ts us u. operators_agree (suc (length ts)) (suc (length us)) most more l operand other h lo a ts us u (omega arith);
      })

  -- ---- one way or another by the token at the front

  pub data Steps (X : Type 0) (d e r s : List Terminal → Outcome X) (t : Terminal) : Type 0 where
    -- it is taken, and reading goes on behind it
    goes_on : (k m : List Terminal → Outcome X) → Local X f g k m → ((ts : List Terminal) → r (t ∷ ts) ≡ k ts) → ((ts : List Terminal) → s (t ∷ ts) ≡ m ts) → Steps X d e r s t
    -- it is left to another reader
    passes_by : ((ts : List Terminal) → r (t ∷ ts) ≡ d (t ∷ ts)) → ((ts : List Terminal) → s (t ∷ ts) ≡ e (t ∷ ts)) → Steps X d e r s t
    -- reading stops
    stops_there : ((ts : List Terminal) → r (t ∷ ts) ≡ stops_at (t ∷ ts)) → ((ts : List Terminal) → s (t ∷ ts) ≡ stops_at (t ∷ ts)) → Steps X d e r s t

  pub local_steps : {X : Type 0} (d e r s : List Terminal → Outcome X) → Local X f g d e → r [] ≡ d [] → s [] ≡ e [] → ((t : Terminal) → Steps X d e r s t) → Local X f g r s
  local_steps {X = X} d e r s other first second step = record { left = left_within; right = right_within; agrees = λ ts us u. by_head ts us (heads ts us u) u }
    where
      left_by : (t : Terminal) (ts : List Terminal) → Steps X d e r s t → IsWithin (suc (length ts)) (r (t ∷ ts))
      left_by t ts (goes_on k m l p q) = subst (λ (x : Outcome X). IsWithin (suc (length ts)) x) (sym (p ts)) (wider (length ts) (suc (length ts)) (k ts) (l.left ts) (omega arith))
      left_by t ts (passes_by p q) = subst (λ (x : Outcome X). IsWithin (suc (length ts)) x) (sym (p ts)) (other.left (t ∷ ts))
      left_by t ts (stops_there p q) = subst (λ (x : Outcome X). IsWithin (suc (length ts)) x) (sym (p ts)) (omega arith)

      right_by : (t : Terminal) (ts : List Terminal) → Steps X d e r s t → IsWithin (suc (length ts)) (s (t ∷ ts))
      right_by t ts (goes_on k m l p q) = subst (λ (x : Outcome X). IsWithin (suc (length ts)) x) (sym (q ts)) (wider (length ts) (suc (length ts)) (m ts) (l.right ts) (omega arith))
      right_by t ts (passes_by p q) = subst (λ (x : Outcome X). IsWithin (suc (length ts)) x) (sym (q ts)) (other.right (t ∷ ts))
      right_by t ts (stops_there p q) = subst (λ (x : Outcome X). IsWithin (suc (length ts)) x) (sym (q ts)) (omega arith)

      left_within : (ts : List Terminal) → IsWithin (length ts) (r ts)
      left_within [] = subst (λ (x : Outcome X). IsWithin 0 x) (sym first) (other.left [])
      left_within (t ∷ ts) = left_by t ts (step t)

      right_within : (ts : List Terminal) → IsWithin (length ts) (s ts)
      right_within [] = subst (λ (x : Outcome X). IsWithin 0 x) (sym second) (other.right [])
      right_within (t ∷ ts) = right_by t ts (step t)

      both : (x y p q : Outcome X) → x ≡ p → y ≡ q → Agrees X f g p q → Agrees X f g x y
      both x y p q first second a = subst (λ (z : Outcome X). Agrees X f g z y) (sym first) (subst (λ (z : Outcome X). Agrees X f g p z) (sym second) a)

      by_step : (t : Terminal) (ts us : List Terminal) → Alike f g (t ∷ ts) (t ∷ us) → Steps X d e r s t → Agrees X f g (r (t ∷ ts)) (s (t ∷ us))
      by_step t ts us u (goes_on k m l p q) = both _ _ (k ts) (m us) (p ts) (q us) (taken f g (k ts) (m us) t t ts us u (l.left ts) (λ v. l.agrees ts us v))
      by_step t ts us u (passes_by p q) = both _ _ (d (t ∷ ts)) (e (t ∷ us)) (p ts) (q us) (other.agrees (t ∷ ts) (t ∷ us) u)
      by_step t ts us u (stops_there p q) = both _ _ (stops_at (t ∷ ts)) (stops_at (t ∷ us)) (p ts) (q us) (stops u)

      by_head : (ts us : List Terminal) → IsSameAhead ts us → Alike f g ts us → Agrees X f g (r ts) (s us)
      by_head _ _ at_end u = both _ _ (d []) (e []) first second (other.agrees [] [] u)
      by_head _ _ (at_token t ts us) u = by_step t ts us u (step t)

  -- by a test that looks at no more than that token
  pub local_if : {X : Type 0} (test : List Terminal → Bool) (r s d e : List Terminal → Outcome X) → ((ts us : List Terminal) → IsSameAhead ts us → test ts ≡ test us) → Local X f g r s → Local X f g d e
      → Local X f g (λ ts. cond (test ts) (r ts) (d ts)) (λ ts. cond (test ts) (s ts) (e ts))
  local_if {X = X} test r s d e alike l other = record {
    left = λ ts. within (test ts) (length ts) (r ts) (d ts) (l.left ts) (other.left ts);
    right = λ ts. within (test ts) (length ts) (s ts) (e ts) (l.right ts) (other.right ts);
    agrees = λ ts us u. subst (λ (b : Bool). Agrees X f g (cond (test ts) (r ts) (d ts)) (cond b (s us) (e us))) (alike ts us (heads ts us u)) (agree (test ts) (r ts) (s us) (d ts) (e us) (l.agrees ts us u) (other.agrees ts us u));
  }
    where
      within : (b : Bool) (n : ℕ) (p q : Outcome X) → IsWithin n p → IsWithin n q → IsWithin n (cond b p q)
      within true n p q v w = v
      within false n p q v w = w

      agree : (b : Bool) (p q v w : Outcome X) → Agrees X f g p q → Agrees X f g v w → Agrees X f g (cond b p v) (cond b q w)
      agree true p q v w x y = x
      agree false p q v w x y = y
