-- The first of files that can't be read.
use Rattle.std.proofs.Common.{◌≡◌, ℕ, Bool, ◌+◌, ◌<◌, List, [], ◌∷◌, ◌++◌, map, length, take, drop, get_or, All, refl, sym, ap, subst, ◌∙◌, inl, inr}
use Rattle.std.proofs.lemmas.List.{drop_more, map-append, take-append-drop, take_more}
use Rattle.std.proofs.lemmas.List.Elements.{All-cons, All-nil, All-push}
use Rattle.meaning.specs.declared.plan.Join.{Join}
use Rattle.meaning.specs.declared.plan.Plan.{Plan}
use Rattle.partial_codec.specs.Job.{JobSpec}
use Rattle.command_line.specs.declared.commands.WorkCommand.{WorkCommand}
use Rattle.folders.specs.Folder.{Holds, dimension_path, fragment_path}
use Rattle.folders.specs.Refused.{IsFirstUnread, IsNextOpened, IsUnread}
use Rattle.folders.specs.declared.refusal.Refusal.{Refusal}
use Rattle.folders.specs.declared.refusal.Refusal.TheVariants as refusal
use Rattle.jobs.specs.Gathering.{IsFileRefused, IsUnreturned}
use Rattle.jobs.specs.Working as working

-- ---- refusals that name no file to be read

unread_is : (named path : List ℕ) (e : Refusal) → IsUnread named e → e ≡ refusal.CannotRead path → path ≡ named
unread_is named path e (inl memory) is = absurd cc
unread_is named path e (inr unread) is = let same : refusal.CannotRead named ≡ refusal.CannotRead path = sym unread ∙ is in cc same

pub never_returned : (journaled : Bool) (long : Type 0) (path : List ℕ) (e : Refusal) → IsUnreturned journaled long e → e ≡ refusal.CannotRead path → ⊥
never_returned journaled long path e (inl memory) is = cc
never_returned journaled long path e (inr (inl report)) is = cc
never_returned journaled long path e (inr (inr (fault, kept, other, unkept))) is = cc

-- ---- one file after the other

module _ {A : Type 0} (opens : List ℕ → Type 0) (path_of : A → List ℕ) where
  -- the files of so many were opened
  abbrev pub AreOpened : List A → ℕ → Type 0
  AreOpened xs k = All opens (map path_of (take k xs))

  pub none_opened : (xs : List A) → AreOpened xs 0
  none_opened xs = All-nil opens

  pub one_opened : (xs : List A) (k : ℕ) (x : A) → k < length xs → x ≡ get_or xs k x → AreOpened xs k → opens (path_of x) → AreOpened xs (k + 1)
  one_opened xs k x lt at opened here =
      subst (All opens) (sym (ap (map path_of) (take_more xs k x lt ∙ ap (λ (y : A). take k xs ++ y ∷ []) (sym at)) ∙ map-append path_of (take k xs) (x ∷ [])))
      (All-push opens (map path_of (take k xs)) (path_of x) opened here)

  pub next_opened : (xs : List A) (k : ℕ) (x : A) → k < length xs → x ≡ get_or xs k x → AreOpened xs k → IsNextOpened opens (map path_of xs) (path_of x)
  next_opened xs k x lt at opened = (
    map path_of (take k xs),
    map path_of (drop (k + 1) xs),
    ap (map path_of) (sym (take-append-drop k xs) ∙ ap (λ (ys : List A). take k xs ++ ys) (drop_more xs k x lt ∙ ap (λ (y : A). y ∷ drop (k + 1) xs) (sym at))) ∙ map-append path_of (take k xs) (x ∷ drop (k + 1) xs),
    opened,
  )

  -- the next of them can't be read
  pub first_unread : (xs : List A) (k : ℕ) (x : A) (e : Refusal) → k < length xs → x ≡ get_or xs k x → AreOpened xs k → IsUnread (path_of x) e → IsFirstUnread opens (map path_of xs) e
  first_unread xs k x e lt at opened unread = λ path is.
      subst (IsNextOpened opens (map path_of xs)) (sym (unread_is (path_of x) path e unread is)) (next_opened xs k x lt at opened)

-- behind a file that was opened
pub behind_opened : (opens : List ℕ → Type 0) (first : List ℕ) (paths : List (List ℕ)) (e : Refusal) → opens first → IsFirstUnread opens paths e → IsFirstUnread opens (first ∷ paths) e
behind_opened opens first paths e here unread = λ path is.
    let (before, behind, whole, opened) = unread path is in
    (first ∷ before, behind, ap (λ (ps : List (List ℕ)). first ∷ ps) whole, All-cons opens first before here opened)

pub first_of : (opens : List ℕ → Type 0) (first : List ℕ) (paths : List (List ℕ)) (e : Refusal) → IsUnread first e → IsFirstUnread opens (first ∷ paths) e
first_of opens first paths e unread = λ path is. ([], paths, ap (λ (p : List ℕ). p ∷ paths) (sym (unread_is first path e unread is)), All-nil opens)

pub same_paths : (paths : List (List ℕ)) → map (λ (p : List ℕ). p) paths ≡ paths
same_paths [] = refl
same_paths (p ∷ paths) = ap (λ (ps : List (List ℕ)). p ∷ ps) (same_paths paths)

-- of files that are taken the next can't be read, or not be named
pub file_unread : (journaled : Bool) (holds : Holds) (opens : List ℕ → Type 0) (paths : List (List ℕ)) (k : ℕ) (path : List ℕ) (e : Refusal) → k < length paths → path ≡ get_or paths k path → AreOpened opens (λ (p : List ℕ). p) paths k → IsFileRefused journaled holds path e
    → IsFirstUnread opens (map (λ (p : List ℕ). p) paths) e
file_unread journaled holds opens paths k path e lt at opened (inl returned) = λ named is. absurd (never_returned journaled _ named e returned is)
file_unread journaled holds opens paths k path e lt at opened (inr unread) = first_unread opens (λ (p : List ℕ). p) paths k path e lt at opened unread

-- ---- the files of a job, as they were lent

abbrev dims_of : List ℕ → List Join → List (List ℕ)
dims_of directory joins = map (λ (join : Join). dimension_path directory join.dim.name) joins

module _ (opens : List ℕ → Type 0) (command : WorkCommand) (job : JobSpec) (plan : Plan) (directory table : List ℕ) where
  abbrev paths_lent : List Join → List (List ℕ)
  paths_lent joins = fragment_path directory table command.fragment ∷ dims_of directory joins

  as_lent : (joins : List Join) → directory ≡ command.folder → table ≡ plan.fact.name → plan ≡ job.plan → joins ≡ plan.joins → paths_lent joins ≡ working.paths_of command job
  as_lent joins here named planned joined =
      ap (λ (js : List Join). paths_lent js) (joined ∙ ap (λ (q : Plan). q.joins) planned)
      ∙ ap (λ (d : List ℕ). fragment_path d table command.fragment ∷ dims_of d job.plan.joins) here
      ∙ ap (λ (t : List ℕ). fragment_path command.folder t command.fragment ∷ dims_of command.folder job.plan.joins) (named ∙ ap (λ (q : Plan). q.fact.name) planned)

  pub fragment_unread : (e : Refusal) → directory ≡ command.folder → table ≡ plan.fact.name → plan ≡ job.plan → IsUnread (fragment_path directory table command.fragment) e → IsFirstUnread opens (working.paths_of command job) e
  fragment_unread e here named planned unread =
      subst (λ (ps : List (List ℕ)). IsFirstUnread opens ps e) (as_lent plan.joins here named planned refl) (first_of opens (fragment_path directory table command.fragment) (dims_of directory plan.joins) e unread)

  pub dims_unread : (joins : List Join) (e : Refusal) → directory ≡ command.folder → table ≡ plan.fact.name → plan ≡ job.plan → joins ≡ plan.joins → opens (fragment_path directory table command.fragment) → IsFirstUnread opens (dims_of directory joins) e
      → IsFirstUnread opens (working.paths_of command job) e
  dims_unread joins e here named planned joined opened unread =
      subst (λ (ps : List (List ℕ)). IsFirstUnread opens ps e) (as_lent joins here named planned joined) (behind_opened opens (fragment_path directory table command.fragment) (dims_of directory joins) e opened unread)
