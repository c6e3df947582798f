use Rattle.std.proofs.Common.{inl, inr}
use Rattle.keep_edit_runs.proofs.SeenPathLaws.{alone_as, element_alone, elsewhere_as, header_elsewhere, insert_alone}
use Rattle.keep_edit_runs.proofs.SeenPathLaws.{path_elsewhere, remove_alone, rename_alone, rename_elsewhere, set_alone}
use Rattle.keep_edit_runs.proofs.SeenPathLaws.{table_alone}
use Rattle.keep_edit_runs.proofs.seen_paths.SeenPaths.leave_alone.Goals as goal

pub returns-then-misses_path-clause-alone : goal.returns-then-misses_path-clause-alone
returns-then-misses_path-clause-alone c = λ yes.
    let here = c.in-Rename in
    let seen = c.args.self.now in
    alone_as seen c.args.outline.now _ here.is
    (rename_alone seen here.path here.key (c.misses_path.ensures c.if-misses_path.true)
    (c.misses_new.ensures.path yes) (c.misses_new.ensures.keys yes) (c.misses_new.ensures.key yes))

pub returns-then-misses_path-clause-elsewhere : goal.returns-then-misses_path-clause-elsewhere
returns-then-misses_path-clause-elsewhere c = λ yes.
    let here = c.in-Rename in
    let seen = c.args.self.now in
    elsewhere_as seen c.args.outline.now _ here.is
    (rename_elsewhere seen here.path here.key (c.misses_path.ensures c.if-misses_path.true)
    (c.misses_new.ensures.key yes))

pub returns-in-Table-clause-alone : goal.returns-in-Table-clause-alone
returns-in-Table-clause-alone c = λ yes.
    let here = c.in-Table in
    let seen = c.args.self.now in
    let edit = c.args.outline.now in
    let misses = c.misses_keys.ensures yes in
    elim here.is [
      | inl table ↦ alone_as seen edit _ table (table_alone seen here.keys misses)
      | inr element ↦ alone_as seen edit _ element (element_alone seen here.keys misses)
    ]

pub returns-in-Table-clause-elsewhere : goal.returns-in-Table-clause-elsewhere
returns-in-Table-clause-elsewhere c = λ yes.
    let here = c.in-Table in
    let seen = c.args.self.now in
    let edit = c.args.outline.now in
    let elsewhere = header_elsewhere seen here.keys (c.misses_keys.ensures yes) in
    elim here.is [
      | inl table ↦ elsewhere_as seen edit _ table elsewhere
      | inr element ↦ elsewhere_as seen edit _ element elsewhere
    ]

pub returns-then-misses_path-2-clause-alone : goal.returns-then-misses_path-2-clause-alone
returns-then-misses_path-2-clause-alone c = λ yes.
    let here = c.in-Insert in
    let seen = c.args.self.now in
    let edit = c.args.outline.now in
    let misses = c.misses_path-in-Insert.ensures c.if-misses_path-2.true in
    let names = c.misses_names.ensures yes in
    elim here.is [
      | inl insert ↦ alone_as seen edit _ insert (insert_alone seen here.path misses names)
      | inr more ↦ elim more [
        | inl remove ↦ alone_as seen edit _ remove (remove_alone seen here.path misses names)
        | inr set ↦ alone_as seen edit _ set (set_alone seen here.path misses names)
      ]
    ]

pub returns-then-misses_path-2-clause-elsewhere : goal.returns-then-misses_path-2-clause-elsewhere
returns-then-misses_path-2-clause-elsewhere c = λ yes.
    let here = c.in-Insert in
    let seen = c.args.self.now in
    let edit = c.args.outline.now in
    let elsewhere = path_elsewhere seen here.path (c.misses_path-in-Insert.ensures c.if-misses_path-2.true) in
    elim here.is [
      | inl insert ↦ elsewhere_as seen edit _ insert elsewhere
      | inr more ↦ elim more [
        | inl remove ↦ elsewhere_as seen edit _ remove elsewhere
        | inr set ↦ elsewhere_as seen edit _ set elsewhere
      ]
    ]
