-- Loop invariants of `put_types` (`job_head`).
use Rattle.std.proofs.Common.{◌≡◌, ◌++◌, string_bytes, take}
use Rattle.answer_text.specs.Texts.{type_word, listed}
use Rattle.answer_text.proofs.Lists.{before_next}
use Rattle.answer_text.proofs.job_head.put_types.Given as goal

abbrev pub invariant-loop-col_type : goal.invariant-loop-col_type
invariant-loop-col_type l = record {
  text : string_bytes l.out ≡ string_bytes l.fn.out ++ listed l.first type_word (take l.col_type-index l.types);
  between : l.between ≡ before_next l.first (take l.col_type-index l.types);
}
