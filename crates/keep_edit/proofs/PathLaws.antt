-- What is at a path: its kind, and the text of its value.
--
-- Theorems: `its_kind`: the kind that is stated of a node is the one at its path; `got`: the bytes of the value that is
-- there are its text; `not_got`: the fault where there is no value.
use Rattle.std.proofs.Common.{◌≡◌, ℕ, Bool, true, false, List, refl, sym, ap, subst, ◌∙◌, Option, Some, None, Result}
use Rattle.std.proofs.Common.{Ok, Err}
use Rattle.keep_types.specs.declared.leaf.Profile.{Profile}
use Rattle.keep_types.specs.declared.syntax.ValueInfo.{ValueInfo}
use Rattle.keep_syntax.specs.Tree.{Document, text}
use Rattle.keep_types.specs.declared.node.NodeInfo.{NodeInfo}
use Rattle.keep_meaning.specs.KeyText.{text_at}
use Rattle.keep_meaning.specs.Marks.{marks}
use Rattle.keep_meaning.specs.Meaning.{body_fact, mentions_in}
use Rattle.keep_meaning.specs.Nodes.{is_node}
use Rattle.keep_path.specs.Path.{Part}
use Rattle.keep_meaning.specs.Rules.{ObeysRules}
use Rattle.keep_edit_spec.specs.declared.fault.EditFault.{EditFault}
use Rattle.keep_edit_spec.specs.declared.fault.EditFault.TheVariants as fault
use Rattle.keep_edit_spec.specs.Answers.{get, or_not_value, value_at}
use Rattle.keep_edit_spec.specs.Laws.{GivesText}
use Rattle.keep_edit_spec.specs.Refusals.{has_value}
use Rattle.keep_edit_spec.proofs.Shared.{get_is_right, IsValueOf}
use Rattle.keep_edit.specs.Reading.{ProfiledText, IsTextOfTree}
use Rattle.keep_edit.specs.Answers.{kind_of, HasNoValue}
use Rattle.keep_edit_plan.proofs.Shared.{kind_stated, fact_node, IsStated, IsValueThere}

-- ---- its kind

pub no_kind : (path : List Part) (s : Document) → is_node path (mentions_in s) ≡ false → None ≡ kind_of path s
no_kind path s none = rw none refl

pub its_kind : (path : List Part) (s : Document) (info : NodeInfo) → IsStated path s info
    → Some info.kind ≡ kind_of path s
its_kind path s info stated = rw stated.node (ap Some (ap (λ (i : NodeInfo). i.kind) stated.is ∙ kind_stated path s))

-- ---- its text

value_names : (profile : Profile) (path : List Part) (s : Document) (number : ℕ) (info : ValueInfo)
    → IsValueOf profile path s number info → is_node path (mentions_in s) ≡ true
value_names profile path s number info of = fact_node path (mentions_in s) (body_fact of.value.body) of.fact

-- what is answered where the path names a node or not
abbrev answered : Bool → Option (List ℕ) → Result (List ℕ) EditFault
answered b found = elim b [ true ↦ or_not_value found | false ↦ Err fault.NotFound ]

pub got : (d : ProfiledText) (path : List Part) (s : Document) (number : ℕ) (info : ValueInfo) (t : List ℕ)
    → IsTextOfTree d s → IsValueThere d path s number info → t ≡ text_at d.text info.span → get path s ≡ Ok t
got d path s number info t read there e =
    let spelled : text_at (text s) info.span ≡ t =
    ap (λ (b : List ℕ). text_at b info.span) (sym read.reads.spelled) ∙ sym e in
    ap (λ b. answered b (value_at path s)) (value_names d.profile path s number info there.of)
    ∙ ap or_not_value (there.of.got ∙ ap Some spelled)

no_value_got : (path : List Part) (s : Document) → ObeysRules (marks (mentions_in s))
    → has_value path (mentions_in s) ≡ false → value_at path s ≡ None
no_value_got path s obeys none =
    subst (λ (b : Bool). GivesText path s b (value_at path s)) none (get_is_right path s obeys)

pub not_got : (d : ProfiledText) (path : List Part) (s : Document) (f : EditFault) → IsTextOfTree d s
    → HasNoValue path s f → get path s ≡ Err f
not_got d path s fault.NotFound read h = ap (λ b. answered b (value_at path s)) h
not_got d path s fault.NotValue read (node, none) =
    ap (λ b. answered b (value_at path s)) node ∙ ap or_not_value (no_value_got path s read.obeys none)
not_got d path s _ read h = absurd h
