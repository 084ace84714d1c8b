-- How many bytes the values of worked blocks take in each kind, and which kind is chosen.
use Rattle.std.specs.Prelude.{◌≡◌, refl, pos, negsuc, true, false, List, [], ◌∷◌}
use Rattle.meaning.specs.declared.value.ColType.TheVariants as of_type
use Rattle.meaning.specs.declared.value.Value.{Value}
use Rattle.meaning.specs.declared.value.Value.TheVariants.{Int}
use Rattle.blocks.specs.declared.kind.Kind.TheVariants as kind
use Rattle.blocks.proofs.Worked.{q}
use Rattle.encodings.specs.Choosing.{payload_size, is_chosen}

-- those of 2, NULL, 0, 4, 1
pub q_plain : payload_size kind.Plain of_type.Int true q ≡ 41
q_plain = refl

pub q_dict : payload_size kind.Dict of_type.Int true q ≡ 47
q_dict = refl

pub q_runs : payload_size kind.Runs of_type.Int true q ≡ 45
q_runs = refl

pub q_frame : payload_size kind.Frame of_type.Int true q ≡ 12
q_frame = refl

pub q_choice : is_chosen of_type.Int true q kind.Frame ≡ true
q_choice = refl

-- the greatest integer, 1, and the one below 0
abbrev pub n : List Value
n = Int (pos 9223372036854775807) ∷ Int (pos 1) ∷ Int (negsuc 0) ∷ []

pub n_frame : payload_size kind.Frame of_type.Int false n ≡ 33
n_frame = refl

pub n_dict : payload_size kind.Dict of_type.Int false n ≡ 34
n_dict = refl

pub n_runs : payload_size kind.Runs of_type.Int false n ≡ 34
n_runs = refl

pub n_plain : is_chosen of_type.Int false n kind.Plain ≡ true
n_plain = refl
