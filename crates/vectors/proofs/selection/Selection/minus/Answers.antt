-- Proofs of the goals of `Selection::minus` (`selection`).
use Rattle.std.proofs.Common.{rules, ◌≡◌, ◌∙◌, ◌<◌, sym, ap, subst, not, get_or, false, Bool, ℕ, List, All}
use Rattle.vectors.specs.Selection.{Positions, IsSelection, is_among, without}
use Rattle.vectors.proofs.Positions.{keeps_filter, positions_are}
use Rattle.vectors.proofs.selection.Selection.minus.Goals as goal

stays : (a b d : Bool) → a ≡ not b → b ≡ d → a ≡ not d
stays a b d given same = given ∙ ap not same

pub returns : goal.returns
returns c =
    let n = c.args.self.now.below in
    let other = c.args.other.now.list in
    let mask = c.as_slice-is_other.result.now in
    let copy : c.in_ok-left.left ≡ c.args.self.now = c.in_ok-left.ensures in
    let reports : (p : ℕ) → p < n → get_or mask p false ≡ is_among other p = λ p below. ap (λ (m : List Bool). get_or m p false) c.as_slice-is_other.ensures.value ∙ c.in_ok-is_other.ensures.reports p (subst (λ (k : ℕ). p < k) (sym c.requires) below) in
    let sound : IsSelection c.args.self.now = subst IsSelection c.self.view_is c.self.invariant.selection in
    let within : All (λ p. p < n) c.in_ok-left.left.list = subst (λ (s : Positions). All (λ p. p < n) s.list) (sym copy) sound.within in
    let left = keeps_filter _ (λ p. not (is_among other p)) n (λ p a below said. stays a (get_or mask p false) (is_among other p) (search rules) (reports p below)) c.in_ok-left.left.list c.narrow.new.self.list within c.narrow.ensures.kept in
    positions_are c.narrow.new.self n (without c.args.self.now.list other) (c.narrow.ensures.below ∙ ap (λ (s : Positions). s.below) copy) (left ∙ ap (λ (s : Positions). without s.list other) copy)
