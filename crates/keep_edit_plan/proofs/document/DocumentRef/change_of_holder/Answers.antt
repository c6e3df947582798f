use Rattle.keep_edit_plan.proofs.HolderSetLaws.{by_insert, by_remove, by_rename, by_set, valued}
use Rattle.keep_edit_plan.proofs.document.DocumentRef.change_of_holder.Goals as goal

pub returns-in-Insert : goal.returns-in-Insert
returns-in-Insert c =
    by_insert c.args.self.now c.args.edit.now c.in-Insert.path c.in-Insert.field-1 c.holder_set.result c.in-Insert.is
    c.holder_set.ensures.utf8 c.holder_set.ensures.set

pub returns-in-Set : goal.returns-in-Set
returns-in-Set c =
    by_set c.args.self.now c.args.edit.now c.in-Set.path c.in-Set.field-1 c.holder_set-in-Set.result c.in-Set.is
    c.holder_set-in-Set.ensures.set

pub returns-in-Rename : goal.returns-in-Rename
returns-in-Rename c =
    by_rename c.args.self.now c.args.edit.now c.in-Rename.path c.in-Rename.field-1 c.holder_set-in-Rename.result
    c.in-Rename.is c.holder_set-in-Rename.ensures.set

pub returns-in_ok-ok-in-Remove : goal.returns-in_ok-ok-in-Remove
returns-in_ok-ok-in-Remove c =
    by_remove c.args.self.now c.args.edit.now c.in-Remove.path c.holder_set-in-Remove.result c.in-Remove.is
    (valued c.args.self.now c.in-Remove.path c.value_node.result _ c.in_ok-ok-in-Remove.ensures.value
    c.value_node.ensures)
    c.holder_set-in-Remove.ensures.set
