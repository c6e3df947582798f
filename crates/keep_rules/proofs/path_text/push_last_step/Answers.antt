use Rattle.std.proofs.Common.{◌∙◌, ap, arith, sym, string_bytes}
use Rattle.indexmap.proofs.MapLemmas.{OnOk-map}
use Rattle.keep_path.specs.Path.{index}
use Rattle.std.proofs.lemmas.Result.{on_err_weaker}
use Rattle.keep_rules.proofs.PathStepLemmas.{key_added, key_size, index_added, index_size}
use Rattle.keep_rules.proofs.path_text.push_last_step.Goals as goal

pub returns-in-Some-clause-pushed : goal.returns-in-Some-clause-pushed
returns-in-Some-clause-pushed c = λ before old.
    OnOk-map c.push_key.result _ _
    (key_added c.args.nodes.now.trie c.in-Some.ensures.trie c.args.id c.requires.later c.requires.within c.parent.result
    c.in-Some.key.now before (string_bytes c.args.out.now) (string_bytes c.push_key.new.out) c.parent.ensures.parent
    c.in-Some.ensures.some old)
    c.push_key.ensures.pushed

pub returns-in-None-clause-pushed : goal.returns-in-None-clause-pushed
returns-in-None-clause-pushed c = λ before old.
    let part = c.in-None.ensures.none.1 ∙ ap index (sym (c.number.ensures _ c.in-None.ensures.none.1)) in
    OnOk-map c.push_index.result _ _
    (index_added c.args.nodes.now.trie c.in-None.ensures.trie c.args.id c.requires.later c.requires.within
    c.number.result before (string_bytes c.args.out.now) (string_bytes c.push_index.new.out) part old)
    c.push_index.ensures.pushed

pub returns-in-Some-clause-full : goal.returns-in-Some-clause-full
returns-in-Some-clause-full c = λ before old.
    let size =
    key_size c.args.nodes.now.trie c.in-Some.ensures.trie c.args.id c.requires.later c.requires.within c.parent.result
    c.in-Some.key.now before (string_bytes c.args.out.now) c.parent.ensures.parent c.in-Some.ensures.some old in
    on_err_weaker c.push_key.result (λ less. omega (arith, less, size)) c.push_key.ensures.full

pub returns-in-None-clause-full : goal.returns-in-None-clause-full
returns-in-None-clause-full c = λ before old.
    let part = c.in-None.ensures.none.1 ∙ ap index (sym (c.number.ensures _ c.in-None.ensures.none.1)) in
    let size =
    index_size c.args.nodes.now.trie c.in-None.ensures.trie c.args.id c.requires.later c.requires.within c.number.result
    before (string_bytes c.args.out.now) part old in
    on_err_weaker c.push_index.result (λ less. omega (arith, less, size)) c.push_index.ensures.full
