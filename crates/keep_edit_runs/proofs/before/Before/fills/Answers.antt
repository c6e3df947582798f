use Rattle.std.proofs.Common.{◌≡◌, ◌∙◌, List, ap, inl, inr, refl, rules, subst, subst₂, sym, ℕ}
use Rattle.keep_edit_spec.specs.Edits.{append_element, append_table, insert}
use Rattle.keep_edit_plan.specs.Answers.{IsSpanOf}
use Rattle.keep_edit_plan.specs.Headers.{key_texts}
use Rattle.keep_edit_plan.specs.TextEdits.{change_of}
use Rattle.keep_edit_plan.specs.declared.edit.Edit.{Edit}
use Rattle.keep_edit_plan.specs.declared.edit.Edit.TheVariants as edit
use Rattle.keep_edit_runs.specs.Lists.{IsEdit}
use Rattle.keep_edit_plan.specs.Reading.{IsTextOfTree, ProfiledText}
use Rattle.keep_edit_plan.specs.NewTables.{AppendsNewElementHere, AppendsNewTableHere, IsKeyLine}
use Rattle.keep_edit_runs.proofs.before.Before.fills.Goals as goal

pub returns-in-Some-clause-filled : goal.returns-in-Some-clause-filled
returns-in-Some-clause-filled c = λ yes.
    let own = c.in-Table.keys in
    let keys = c.as_slice-in-Table.result in
    let is : c.args.edit.now ≡ edit.Table own = search rules in
    let items = c.as_slice-in-Table.ensures.value in
    let same : key_texts c.as_slice.result.now ≡ key_texts keys.now =
    ap key_texts (c.as_slice.ensures.value ∙ sym items) in
    inl (record {
      made = c.in-Some.header;
      keys = keys;
      is = subst (λ (x : Edit). IsEdit x (append_table (key_texts keys.now))) (sym is)
          (ap (λ l. append_table (key_texts l)) items);
      appends = subst₂ (λ (now : ProfiledText) (l : List (List ℕ)). AppendsNewTableHere now l c.in-Some.header)
          c.as_ref.ensures same c.in-Some.ensures;
      added = c.add_table.ensures.added yes;
    })

pub returns-in-Some-key_line-clause-filled : goal.returns-in-Some-key_line-clause-filled
returns-in-Some-key_line-clause-filled c = λ yes.
    let path = c.in-Insert.path in
    let line = c.in-Some-key_line.line in
    let is : c.args.edit.now ≡ edit.Insert path c.in-Insert.value = search rules in
    let same = c.as_ref-in-Insert.ensures in
    let (v, of_value) = c.in-Some-key_line.ensures.value in
    inr (inr (record {
      made = line;
      path = path;
      value = v;
      is = subst (λ (x : Edit). IsEdit x (insert path v)) (sym is) (v, of_value, refl);
      line = λ s read.
          subst (λ (now : ProfiledText). IsKeyLine now.profile s path v (change_of line)) same
          (c.in-Some-key_line.ensures.line s (subst (λ (now : ProfiledText). IsTextOfTree now s) (sym same) read) v
          of_value);
      within = subst (λ (now : ProfiledText). IsSpanOf now.text line.place) same c.in-Some-key_line.ensures.within;
      added = c.add_key.ensures.added yes;
    }))

pub returns-in-Some-new_element-clause-filled : goal.returns-in-Some-new_element-clause-filled
returns-in-Some-new_element-clause-filled c = λ yes.
    let own = c.in-Element.keys in
    let keys = c.as_slice-in-Element-2.result in
    let made = c.in-Some-new_element.element in
    let is : c.args.edit.now ≡ edit.Element own = search rules in
    let items = c.as_slice-in-Element-2.ensures.value in
    let same : key_texts c.as_slice-in-Element.result.now ≡ key_texts keys.now =
    ap key_texts (c.as_slice-in-Element.ensures.value ∙ sym items) in
    inr (inl (record {
      made = made.header;
      keys = keys;
      first = made.number;
      is = subst (λ (x : Edit). IsEdit x (append_element (key_texts keys.now))) (sym is)
          (ap (λ l. append_element (key_texts l)) items);
      appends = subst₂ (λ (now : ProfiledText) (l : List (List ℕ)).
          AppendsNewElementHere now l made.number made.header) c.as_ref-in-Element.ensures same
          c.in-Some-new_element.ensures;
      added = c.add_element.ensures.added yes;
    }))
