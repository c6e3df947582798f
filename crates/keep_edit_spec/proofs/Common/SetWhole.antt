-- If a document and a value are valid and obey the rules, each change that `set` makes gives such a document, with the
-- text and the tree of the edit.
--
-- Theorems: `set_whole`; `together`: the same of any edit, from its parts.
use Rattle.std.proofs.Common.{◌≡◌, List, Option, Some, None}
use Rattle.std.specs.Prelude.{⊤}
use Rattle.keep_types.specs.declared.leaf.Profile.{Profile}
use Rattle.keep_syntax.specs.Tree.{Value, Document, text}
use Rattle.keep_syntax.specs.Grammar.{IsValue, IsDocument}
use Rattle.keep_path.specs.Path.{Part}
use Rattle.keep_meaning.specs.Rules.{ObeysRules}
use Rattle.keep_meaning.specs.Marks.{marks}
use Rattle.keep_meaning.specs.Meaning.{mentions_in}
use Rattle.keep_edit_spec.specs.Changed.{Changed, place_of, put}
use Rattle.keep_edit_spec.specs.Edits.{Edit, set, change}
use Rattle.keep_edit_spec.specs.Trees.{IsTreeOf}
use Rattle.keep_meaning.specs.Meaning.{mentions_of_value}
use Rattle.keep_edit_spec.proofs.Common.Runs.{Rules}
use Rattle.keep_edit_spec.proofs.Common.Texts.{EachIs, put-place_of}
use Rattle.keep_edit_spec.proofs.Common.LineTexts.{change-is}
use Rattle.keep_edit_spec.proofs.Common.SetLaw.{EachTo}
use Rattle.keep_edit_spec.proofs.Common.SetDocument.{IsLawful, set_law}
use Rattle.keep_edit_spec.proofs.Common.SetValid.{valid_set}
use Rattle.keep_edit_spec.proofs.Common.Bridge.{obeys_from_rules}

pub record IsSetWhole (profile : Profile) (s : Document) (e : Edit) (c : Changed Document) : Type 0 where
  pub valid : IsDocument profile c.to
  pub obeys : ObeysRules (marks (mentions_in c.to))
  pub rules : Rules (mentions_in c.to)
  pub spelled : text c.to ≡ put (text s) (place_of c)
  pub tree : IsTreeOf (mentions_in s) e (mentions_in c.to)

abbrev pub EachChange : (Changed Document → Type 0) → Option (Changed Document) → Type 0
EachChange P None = ⊤
EachChange P (Some c) = P c

pub together : (profile : Profile) (s : Document) (e : Edit) (o : Option (Changed Document))
    → EachTo (IsDocument profile) o → EachIs text s o → EachTo (IsLawful s e) o → EachChange (IsSetWhole profile s e) o
together profile s e None a b c = tt
together profile s e (Some x) a b c =
    record {
      valid = a;
      obeys = obeys_from_rules (mentions_in x.to) c.rules;
      rules = c.rules;
      spelled = put-place_of text s x b;
      tree = c.tree;
    }

pub set_whole : (profile : Profile) (s : Document) (path : List Part) (new : Value) → IsDocument profile s
    → Rules (mentions_in s) → IsValue profile new → Rules (mentions_of_value new)
    → EachChange (IsSetWhole profile s (set path new)) (change s (set path new))
set_whole profile s path new valid rules value_valid value_rules =
    together profile s (set path new) (change s (set path new)) (valid_set profile s path new valid value_valid)
    (change-is s (set path new)) (set_law s path new rules value_rules)
