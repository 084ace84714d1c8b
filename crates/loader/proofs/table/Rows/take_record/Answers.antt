-- Proofs of the goals of `Rows::take_record` (`table`).
use Rattle.csv.specs.Records.{fields_of}
use Rattle.loader.proofs.Declared.{declared_kept, rows_longer}
use Rattle.loader.proofs.table.Rows.take_record.Goals as goal

pub returns-clause-kept : goal.returns-clause-kept
returns-clause-kept g c =
    declared_kept c.args.self.now.declared.now c.args.self.now.order.columns.items c.args.row (fields_of c.args.self.now.fields) c.args.columns.now c.load_record.new.columns c.load_record.result
    c.args.self.now.order_is c.requires c.load_record.ensures

pub returns-clause-longer : goal.returns-clause-longer
returns-clause-longer g c =
    rows_longer c.args.self.now.declared.now c.args.self.now.order.columns.items c.args.row (fields_of c.args.self.now.fields) c.args.columns.now c.load_record.new.columns c.load_record.result
    c.args.self.now.order_is c.requires c.load_record.ensures
