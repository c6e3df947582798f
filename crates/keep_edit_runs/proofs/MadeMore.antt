-- One edit more of a list, by its law: the edits before it are made, and it is not refused.
--
-- Theorems: `more_made`: then it is made too; `tree_after`: and its document is the edited one.
use Rattle.std.proofs.Common.{◌≡◌, ◌<◌, ℕ, suc, List, length, take}
use Rattle.std.proofs.Common.{get_or, refl, sym}
use Rattle.std.proofs.Common.{ap, subst, ◌∙◌, arith, Option, None}
use Rattle.std.specs.Prelude.{IsUtf8, Ok}
use Rattle.keep_syntax.specs.Tree.{Document, text}
use Rattle.keep_edit_spec.specs.declared.fault.EditFault.{EditFault}
use Rattle.keep_edit_spec.specs.Changed.{put}
use Rattle.keep_edit_spec.specs.Edits as law
use Rattle.keep_edit_spec.specs.Edits.{edited_document, place}
use Rattle.keep_edit_spec.specs.Laws.{IsLawfulEdit}
use Rattle.keep_edit_spec.specs.Refusals.{refusal}
use Rattle.keep_edit_plan.proofs.Shared.{one_tree}
use Rattle.keep_edit_plan.specs.declared.edit.Edit.{Edit}
use Rattle.keep_edit_plan.specs.Answers.{IsDone, IsTextAfter, refusal_in}
use Rattle.keep_edit_runs.specs.Lists.{IsEdit, AreMade}
use Rattle.keep_edit_plan.specs.Reading.{limit, ProfiledText, IsTextOfTree, text_in}
use Rattle.keep_edit_runs.proofs.MadeLists.{one_made}

-- an edit that is not refused, and the text that it makes
module _ (now : ProfiledText) (t : Document) (e : law.Edit) (read : IsTextOfTree now t)
    (lawful : IsLawfulEdit now.profile limit t e) (bytes : List ℕ) (utf8 : IsUtf8 bytes)
    (is : bytes ≡ put now.text (place t e)) where
  pub text_made : IsTextAfter t e (text_in now.profile bytes) now
  text_made =
      let spelled : bytes ≡ text (edited_document t e) =
      is ∙ ap (λ (b : List ℕ). put b (place t e)) read.reads.spelled ∙ lawful.reads.spelled in
      record {
        profile = refl;
        text = is;
        tree = record {
          utf8 = utf8;
          reads = record { valid = lawful.reads.valid; spelled = spelled; shallow = lawful.reads.shallow };
          obeys = lawful.obeys;
        };
        changed = lawful.tree;
        growth = omega (arith, lawful.growth, ap length spelled, ap length read.reads.spelled);
      }

  module _ (s : Document) (edits : List Edit) (n : ℕ) (old : ProfiledText) (d x : Edit) (lt : n < length edits)
      (here : get_or edits n d ≡ x) (given : IsEdit x e) (h : AreMade s (take n edits) old now)
      (same : h.tree ≡ t) (allowed : refusal now.profile limit t e ≡ None) where
    done : IsDone (λ (k : IsTextAfter t e (text_in now.profile bytes) now). IsTextAfter h.tree e
        (text_in now.profile bytes) now) (refusal_in now h.tree e) (Ok text_made)
    done = subst (λ (u : Document). IsDone (λ (k : IsTextAfter t e (text_in now.profile bytes) now). IsTextAfter u e
        (text_in now.profile bytes) now) (refusal_in now u e) (Ok text_made)) (sym same)
        (subst (λ (o : Option EditFault). IsDone (λ (k : IsTextAfter t e (text_in now.profile bytes) now).
        IsTextAfter t e (text_in now.profile bytes) now) o (Ok text_made)) (sym allowed) text_made)

    pub more_made : AreMade s (take (suc n) edits) old (text_in now.profile bytes)
    more_made =
        one_made (λ (k : IsTextAfter t e (text_in now.profile bytes) now). IsTextAfter h.tree e
        (text_in now.profile bytes) now) s edits old now n d x e lt here given h (text_in now.profile bytes) text_made
        (λ k. k) done

  -- a document of the text that was made is the edited one
  pub tree_after : (u : Document) → IsTextOfTree (text_in now.profile bytes) u → edited_document t e ≡ u
  tree_after u h = one_tree (text_in now.profile bytes) (edited_document t e) u text_made.tree h
