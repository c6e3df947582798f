-- What is put into brackets is deeper than they by at least one; and all that holds of a change, from its parts.
--
-- Theorems: `enclosing_more`: one bracket more encloses what is put in; `whole_from`: all of `IsSetWhole`, where the
-- new document is valid and `IsLawful` holds.
use Rattle.std.proofs.Common.{◌≡◌, ℕ, suc, ◌≤◌, Bool, true, cond, List, [], ◌∷◌, ◌++◌, map, sym, ap, subst, arith, Some}
use Rattle.keep_types.specs.declared.leaf.Profile.{Profile}
use Rattle.keep_syntax.specs.Tree.{Value, Document}
use Rattle.keep_syntax.specs.Grammar.{IsDocument}
use Rattle.keep_meaning.specs.Fact.{is_bracket}
use Rattle.keep_path.specs.Path.{Part}
use Rattle.keep_meaning.specs.Marks.{Mention}
use Rattle.keep_meaning.specs.Meaning.{body_fact, mentions_of_value}
use Rattle.keep_meaning.specs.Nodes.{fact_at}
use Rattle.keep_edit_spec.specs.Look.{prefixes, is_bracket_at, enclosing}
use Rattle.keep_edit_spec.specs.Changed.{Changed}
use Rattle.keep_edit_spec.specs.Edits.{Edit, change}
use Rattle.keep_edit_spec.proofs.Common.SetLaw.{EachTo}
use Rattle.keep_edit_spec.proofs.Common.SetDocument.{IsLawful}
use Rattle.keep_edit_spec.proofs.Common.SetWhole.{IsSetWhole, EachChange, together}
use Rattle.keep_edit_spec.proofs.Common.LineTexts.{change-is}
use Rattle.keep_edit_spec.proofs.Common.DoneAtValue.{count_step}
use Rattle.keep_edit_spec.proofs.Common.EntryDepths.{enclosing_beyond}

-- after a bracket at a path one more encloses
pub enclosing_more : (a : List Part) (p : Part) (ps : List Part) (ms : List Mention) (v : Value)
    → ((q : List Part) → fact_at (a ++ q) ms ≡ fact_at q (mentions_of_value v)) → is_bracket (body_fact v.body) ≡ true
    → suc (enclosing a ms) ≤ enclosing (a ++ p ∷ ps) ms
enclosing_more a p ps ms v holds bracket =
    let t : List Part → Bool = is_bracket_at (mentions_of_value v) in
    let one : cond {A = ℕ} (t []) 1 0 ≡ 1 = ap (λ b. cond {A = ℕ} b 1 0) bracket in
    omega (
      arith,
      enclosing_beyond a (p ∷ ps) ms (mentions_of_value v) holds,
      count_step t [] (map (λ x. p ∷ x) (prefixes ps)),
      one,
    )

pub whole_from : (profile : Profile) (s : Document) (e : Edit) (c : Changed Document) → change s e ≡ Some c
    → IsDocument profile c.to → IsLawful s e c.to → IsSetWhole profile s e c
whole_from profile s e c is valid lawful =
    let right : EachChange (IsSetWhole profile s e) (change s e) =
    together profile s e (change s e) (subst (EachTo (IsDocument profile)) (sym is) valid) (change-is s e)
    (subst (EachTo (IsLawful s e)) (sym is) lawful) in
    subst (EachChange (IsSetWhole profile s e)) is right
