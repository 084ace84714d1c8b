-- Ends of texts, and cuts of their joined bytes.
use Rattle.std.proofs.Common.{◌≡◌, ℕ, ◌+◌, ◌-◌, ◌<◌, ◌≤◌, true, List, [], ◌∷◌, ◌++◌, length, take, drop, get_or, refl, sym, ap, ◌∙◌, suc, zero, arith, append_assoc, length-append, add_assoc, add-zero, zero-add, add-one}
use Rattle.std.specs.List.{concat, list_all}
use Rattle.std.proofs.lemmas.List.Folds.{concat-append}
use Rattle.std.proofs.lemmas.List.{take-append-drop, drop_more, append-nil, take_at, drop_at, get_or_read}
use Rattle.std.proofs.Math.Seq.{take-add}
use Rattle.columns.specs.Texts.{texts_from, ends_from, AreTexts}
use Rattle.columns.specs.Column.{is_text}
use Rattle.meaning.proofs.Tests.{all_first, all_rest, all_append, both}

pub length-texts_from : (start : ℕ) (ends : List ℕ) (joined : List ℕ) → length (texts_from start ends joined) ≡ length ends
length-texts_from start [] joined = refl
length-texts_from start (e ∷ ends) joined = ap suc (length-texts_from e ends joined)

-- what stands between two offsets
pub take_middle : (xs ys zs : List ℕ) (i j : ℕ) → i ≡ length xs → j ≡ length xs + length ys → take (j - i) (drop i (xs ++ (ys ++ zs))) ≡ ys
take_middle xs ys zs i j p q =
    let n : length ys ≡ j - i = omega arith in
    rw (drop_at xs (ys ++ zs) i (sym p)) (take_at ys zs (j - i) n)

-- texts that stand behind other bytes are read back
pub texts_read : (before : List ℕ) (ts : List (List ℕ)) → texts_from (length before) (ends_from (length before) ts) (before ++ concat ts) ≡ ts
texts_read before [] = refl
texts_read before (t ∷ ts) =
    let e : length (before ++ t) ≡ length before + length t = length-append before t in
    let rest : texts_from (length before + length t) (ends_from (length before + length t) ts) (before ++ (t ++ concat ts)) ≡ ts =
    rw (← e, ← append_assoc before t (concat ts)) (texts_read (before ++ t) ts) in
    let first : take ((length before + length t) - length before) (drop (length before) (before ++ (t ++ concat ts))) ≡ t =
    take_middle before t (concat ts) (length before) (length before + length t) refl refl in
    cc

pub ends_at : (start : ℕ) (ts : List (List ℕ)) (k : ℕ) → k < length ts → get_or (ends_from start ts) k 0 ≡ start + length (concat (take (suc k) ts))
ends_at start [] k h = absurd (omega arith)
ends_at start (t ∷ ts) zero h = rw append-nil refl
ends_at start (t ∷ ts) (suc k) h =
    rw (length-append t (concat (take (suc k) ts))) (ends_at (start + length t) ts k (omega arith) ∙ add_assoc start (length t) (length (concat (take (suc k) ts))))

-- the bytes in front of a text, then those of the next texts
pub front_more : (ts : List (List ℕ)) (a m : ℕ) → concat (take (a + m) ts) ≡ concat (take a ts) ++ concat (take m (drop a ts))
front_more ts a m = ap concat (take-add a m ts) ∙ concat-append (take a ts) (take m (drop a ts))

pub front_le : (ts : List (List ℕ)) (a b : ℕ) → a ≤ b → length (concat (take a ts)) ≤ length (concat (take b ts))
front_le ts a b h =
    let e : b ≡ a + (b - a) = omega arith in
    rw (e, front_more ts a (b - a)) (omega (arith, length-append (concat (take a ts)) (concat (take (b - a) (drop a ts)))))

pub front_within : (ts : List (List ℕ)) (a : ℕ) → length (concat (take a ts)) ≤ length (concat ts)
front_within ts a =
    let e : concat ts ≡ concat (take a ts) ++ concat (drop a ts) =
    ap concat (sym (take-append-drop a ts)) ∙ concat-append (take a ts) (drop a ts) in
    omega (arith, ap length e, length-append (concat (take a ts)) (concat (drop a ts)))

pub cut_joined : (ts : List (List ℕ)) (a b i j : ℕ) → a ≤ b → i ≡ length (concat (take a ts)) → j ≡ length (concat (take b ts)) → take (j - i) (drop i (concat ts)) ≡ concat (take (b - a) (drop a ts))
cut_joined ts a b i j h p q =
    let m = b - a in
    let e : b ≡ a + m = omega arith in
    let more : concat (take b ts) ≡ concat (take a ts) ++ concat (take m (drop a ts)) = ap (λ n. concat (take n ts)) e ∙ front_more ts a m in
    let long : j ≡ length (concat (take a ts)) + length (concat (take m (drop a ts))) =
    q ∙ (ap length more ∙ length-append (concat (take a ts)) (concat (take m (drop a ts)))) in
    let behind : concat (drop a ts) ≡ concat (take m (drop a ts)) ++ concat (drop m (drop a ts)) =
    ap concat (sym (take-append-drop m (drop a ts))) ∙ concat-append (take m (drop a ts)) (drop m (drop a ts)) in
    let all : concat ts ≡ concat (take a ts) ++ (concat (take m (drop a ts)) ++ concat (drop m (drop a ts))) =
    (ap concat (sym (take-append-drop a ts)) ∙ concat-append (take a ts) (drop a ts)) ∙ ap (λ x. concat (take a ts) ++ x) behind in
    ap (λ x. take (j - i) (drop i x)) all ∙ take_middle (concat (take a ts)) (concat (take m (drop a ts))) (concat (drop m (drop a ts))) i j p long

pub one_text : (ts : List (List ℕ)) (k : ℕ) → k < length ts → concat (take 1 (drop k ts)) ≡ get_or ts k []
one_text ts k h = rw (drop_more ts k [] h) (append-nil (get_or ts k []))

pub one_is_text : (ts : List (List ℕ)) (k : ℕ) → k < length ts → list_all is_text ts ≡ true → is_text (get_or ts k []) ≡ true
one_is_text [] k h e = absurd (omega arith)
one_is_text (t ∷ ts) zero h e = all_first is_text t ts e
one_is_text (t ∷ ts) (suc k) h e = one_is_text ts k (omega arith) (all_rest is_text t ts e)

pub ends-push : (start : ℕ) (ts : List (List ℕ)) (t : List ℕ) → ends_from start (ts ++ t ∷ []) ≡ ends_from start ts ++ (start + length (concat ts) + length t) ∷ []
ends-push start [] t = rw add-zero refl
ends-push start (s ∷ ts) t =
    let e : start + length s + length (concat ts) ≡ start + length (s ++ concat ts) =
    omega (arith, length-append s (concat ts)) in
    ap (λ x. (start + length s) ∷ x) (ends-push (start + length s) ts t ∙ ap (λ n. ends_from (start + length s) ts ++ (n + length t) ∷ []) e)

-- one more text behind the last
pub texts-push : (ends joined : List ℕ) (ts : List (List ℕ)) (t : List ℕ) → AreTexts ends joined ts → texts_from 0 (ends ++ length (joined ++ t) ∷ []) (joined ++ t) ≡ ts ++ t ∷ []
texts-push ends joined ts t h =
    let e : ends ++ length (joined ++ t) ∷ [] ≡ ends_from 0 (ts ++ t ∷ []) =
    rw (h.ends_are, h.joined_is, length-append (concat ts) t) (sym (simp zero-add at (ends-push 0 ts t))) in
    let j : joined ++ t ≡ concat (ts ++ t ∷ []) =
    rw (concat-append ts (t ∷ []), append-nil t) (ap (λ x. x ++ t) h.joined_is) in
    rw (e, j) (texts_read [] (ts ++ t ∷ []))

pub are_texts-push : (ends joined : List ℕ) (ts : List (List ℕ)) (t : List ℕ) → AreTexts ends joined ts → is_text t ≡ true → AreTexts (ends ++ length (joined ++ t) ∷ []) (joined ++ t) (ts ++ t ∷ [])
are_texts-push ends joined ts t h u = record {
  ends_are = rw (h.ends_are, h.joined_is, length-append (concat ts) t) (sym (simp zero-add at (ends-push 0 ts t)));
  joined_is = rw (concat-append ts (t ∷ []), append-nil t) (ap (λ x. x ++ t) h.joined_is);
  texts_are = all_append is_text ts (t ∷ []) h.texts_are (both _ _ u refl);
}

-- what is read as an end is where the texts up to it end
pub end_read : (ends joined : List ℕ) (ts : List (List ℕ)) (k n : ℕ) → AreTexts ends joined ts → k < length ts → length ends ≡ length ts → n ≡ get_or ends k n → n ≡ length (concat (take (k + 1) ts))
end_read ends joined ts k n h l long e =
    let r : n ≡ get_or ends k 0 = get_or_read ends k n (omega arith) e 0 in
    let s : get_or ends k 0 ≡ 0 + length (concat (take (suc k) ts)) = rw h.ends_are (ends_at 0 ts k l) in
    rw add-one (r ∙ (s ∙ zero-add (length (concat (take (suc k) ts)))))

pub texts_pushed : (ends joined : List ℕ) (ts : List (List ℕ)) (t new_ends new_joined : List ℕ) (n : ℕ) → AreTexts ends joined ts → is_text t ≡ true → new_ends ≡ ends ++ n ∷ [] → new_joined ≡ joined ++ t → n ≡ length new_joined → AreTexts new_ends new_joined (texts_from 0 new_ends new_joined) × (texts_from 0 new_ends new_joined ≡ ts ++ t ∷ [])
texts_pushed ends joined ts t new_ends new_joined n h u e j p =
    let q : new_ends ≡ ends ++ length (joined ++ t) ∷ [] = e ∙ ap (λ m. ends ++ m ∷ []) (p ∙ ap length j) in
    let v : texts_from 0 new_ends new_joined ≡ ts ++ t ∷ [] = rw (q, j) (texts-push ends joined ts t h) in
    (rw (v, q, j) (are_texts-push ends joined ts t h u), v)

-- the same, as the list of texts is seen
pub end_seen : (ends joined : List ℕ) (ts : List (List ℕ)) (k n : ℕ) → AreTexts ends joined (texts_from 0 ends joined) → texts_from 0 ends joined ≡ ts → k < length ts → n ≡ get_or ends k n → n ≡ length (concat (take (k + 1) ts))
end_seen ends joined ts k n h v l e =
    let long = length-texts_from 0 ends joined in
    let same = ap length v in
    end_read ends joined (texts_from 0 ends joined) k n h (omega arith) (sym long) e ∙ ap (λ xs. length (concat (take (k + 1) xs))) v

pub cut_one : (ts : List (List ℕ)) (k i j : ℕ) → k < length ts → i ≡ length (concat (take k ts)) → j ≡ length (concat (take (k + 1) ts)) → take (j - i) (drop i (concat ts)) ≡ get_or ts k []
cut_one ts k i j h p q =
    let one : (k + 1) - k ≡ 1 = omega arith in
    cut_joined ts k (k + 1) i j (omega arith) p q ∙ (ap (λ m. concat (take m (drop k ts))) one ∙ one_text ts k h)
