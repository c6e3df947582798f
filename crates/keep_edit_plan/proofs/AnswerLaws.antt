-- What a document answers is known of its one tree.
--
-- Theorems: `seen`: what is known of a document is known of the text that it is seen as; `tree_is`: a text has one
-- tree; `stated_is`: the index states what that tree has.
use Rattle.std.proofs.Common.{◌≡◌, ℕ, List, ◌∙◌, ap, subst}
use Rattle.keep_types.specs.declared.leaf.Profile.{Profile}
use Rattle.keep_syntax.specs.declared.syntax.Syntax.{Syntax}
use Rattle.keep_syntax.specs.Tree.{Document}
use Rattle.keep_syntax.specs.Numbered.{tokens}
use Rattle.keep_syntax.specs.Contract.{tokens_of}
use Rattle.keep_meaning.specs.Counts.{statements_in}
use Rattle.keep_meaning.specs.Marks.{start, reading_after}
use Rattle.keep_meaning.specs.Meaning.{mentions_in}
use Rattle.keep_path.specs.NodeInfos.{NodeInfos}
use Rattle.keep_rules.specs.Nested.{AreNested}
use Rattle.keep_rules.specs.ReadDocuments.{IsIndexOf}
use Rattle.keep_edit_plan.specs.Reading.{ProfiledText, text_in, IsTextOfTree, telling_in, Holds}
use Rattle.keep_edit_plan.proofs.ReadLaws.{one_tree}

pub seen : {a b : ProfiledText} {syntax : Syntax} {index : NodeInfos} → a ≡ b → Holds a syntax index
    → Holds b syntax index
seen {a} {b} {syntax} {index} e h = subst (λ (x : ProfiledText). Holds x syntax index) e h

pub text_seen : {profile : Profile} {bytes : List ℕ} {t : ProfiledText} → text_in profile bytes ≡ t → bytes ≡ t.text
text_seen e = ap (λ (x : ProfiledText). x.text) e

pub profile_seen : {profile : Profile} {bytes : List ℕ} {t : ProfiledText} → text_in profile bytes ≡ t
    → profile ≡ t.profile
profile_seen e = ap (λ (x : ProfiledText). x.profile) e

pub tree_is : (t : ProfiledText) (syntax : Syntax) (index : NodeInfos) (s : Document) (h : Holds t syntax index)
    → IsTextOfTree t s → h.tree ≡ s
tree_is t syntax index s h read = one_tree t h.tree s h.read read

pub tokens_are : (t : ProfiledText) (syntax : Syntax) (index : NodeInfos) (s : Document) → Holds t syntax index
    → IsTextOfTree t s → tokens_of syntax t.text ≡ tokens s
tokens_are t syntax index s h read =
    ap (tokens_of syntax) h.read.reads.spelled ∙ h.is.tokens ∙ ap tokens (tree_is t syntax index s h read)

pub stated_is : (t : ProfiledText) (syntax : Syntax) (index : NodeInfos) (s : Document) → Holds t syntax index
    → IsTextOfTree t s → index ≡ telling_in s
stated_is t syntax index s h read = h.stated ∙ ap telling_in (tree_is t syntax index s h read)

-- the index is the document's
pub index_of : (d : ProfiledText) (syntax : Syntax) (index : NodeInfos) (s : Document) → Holds d syntax index
    → IsTextOfTree d s → IsIndexOf s index
index_of d syntax index s holds read = record {
  obeys = read.obeys;
  nested =
      subst (λ (u : Document). AreNested (mentions_in u) (reading_after start (statements_in u)).tables)
      (tree_is d syntax index s holds read) holds.nested;
  facts = stated_is d syntax index s holds read;
}
