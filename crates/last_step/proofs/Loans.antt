-- What a writer gave back of a loan: its bytes begin with the name of the loan, so the loan is the one it was given.
use Rattle.std.proofs.Common.{◌≡◌, ℕ, List, [], ◌∷◌, None, Some, ◌⊎◌, inl, inr, refl, ap, ◌∙◌, subst, append-nil}
use Rattle.std.specs.Prelude.{Option}
use Rattle.std.specs.Io.KnownBytes.{Appends, Keeps, prepend_known, append_known}
use Rattle.std.proofs.KnownBytes.{Appends-kept}
use Rattle.csv.specs.Writing.{text_written, writer_under, writer_pending}
use Rattle.csv.specs.declared.writer.Writer.{Writer}
use Rattle.last_step.specs.Lent.{lent_contents}
use Rattle.last_step.specs.declared.lent.Lent.{Lent}

same_loan : (a b : Option (List ℕ)) (n m : ℕ) (bytes : List ℕ) → Appends (prepend_known (n ∷ []) a) (prepend_known (m ∷ []) b) bytes → (a ≡ None) ⊎ ((m ≡ n) × Appends a b bytes)
same_loan None b n m bytes said = inl refl
same_loan (Some xs) None n m bytes said = absurd said
same_loan (Some xs) (Some ys) n m bytes said = inr (cc, cc)

nothing_pending : (a : Option (List ℕ)) → append_known a [] ≡ a
nothing_pending None = refl
nothing_pending (Some xs) = ap (λ l. Some l) (append-nil xs)

-- a fresh writer over a loan wrote some bytes, and gave the loan back with all of them, unless nothing is known of the lender
pub gave_back : {W : Type 0} (contents : W → Option (List ℕ)) (fresh written : Writer (Lent W)) (given back : Lent W) (bytes : List ℕ)
    → writer_under fresh ≡ given → writer_pending fresh ≡ []
    → Appends (text_written (lent_contents contents) fresh) (text_written (lent_contents contents) written) bytes
    → Keeps (text_written (lent_contents contents) written) (lent_contents contents back)
    → (contents given.out.now ≡ None) ⊎ ((back.out.ghost_name ≡ given.out.ghost_name) × Appends (contents given.out.now) (contents back.out.now) bytes)
gave_back contents fresh written given back bytes under pending wrote kept =
    let start : text_written (lent_contents contents) fresh ≡ lent_contents contents given =
    (λ i. append_known (lent_contents contents (under i)) (pending i)) ∙ nothing_pending (lent_contents contents given) in
    same_loan _ _ _ _ bytes (Appends-kept _ _ _ bytes (subst (λ text. Appends text (text_written (lent_contents contents) written) bytes) start wrote) kept)
