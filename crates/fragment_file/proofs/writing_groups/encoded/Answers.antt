-- Proofs of the goals of `encoded` (`writing_groups`).
use Rattle.std.proofs.Common.{◌≡◌, List, true, refl, sym, subst, length}
use Rattle.meaning.specs.declared.value.Value.{Value}
use Rattle.encodings.specs.Choosing.{is_chosen}
use Rattle.fragment_file.proofs.ShortPayloads.{short_payload}
use Rattle.fragment_file.proofs.writing_groups.encoded.Goals as goal

pub returns-in-Ok-clause-ok : goal.returns-in-Ok-clause-ok
returns-in-Ok-clause-ok c =
    let kind = c.in-Ok.encoded.kind in
    record {
      col_type = refl;
      nullable = refl;
      rows = refl;
      sound = c.in-Ok.ensures.block;
      short = short_payload c.args.column.now kind c.args.from c.args.to (length c.in-Ok.encoded.payload.items) c.len-rows.ensures.column c.requires.few c.in-Ok.ensures.chosen c.in-Ok.ensures.size;
      values = c.in-Ok.ensures.values;
      best = record {
        chosen = subst (λ (values : List Value). is_chosen c.args.column.now.col_type c.args.column.now.nullable values kind ≡ true) (sym c.in-Ok.ensures.values) c.in-Ok.ensures.chosen;
        tight = c.in-Ok.ensures.tight;
      };
    }
