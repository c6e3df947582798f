-- Elements that are appended at the end of the text: each is left alone by all edits, itself too, and elsewhere than in
-- the arrays of which elements went. So is one more with the same keys.
--
-- What an element leaves alone leaves it alone. So they are still left alone with one edit more that those at the end
-- of the text leave alone, whether it comes there or before.
--
-- Theorems: `like_alone`: an element like one of these; `alone_before`, `alone_at_end`, `alone_apart`: with edits more
-- before the end of the text, with one more there, and with one array more.
use Rattle.std.proofs.Common.{◌≡◌, ◌∷◌, ◌++◌, [], All, List, get_or, inl, refl, subst, sym, true}
use Rattle.std.proofs.lemmas.List.Elements.{All-append, All-push, All-weaker}
use Rattle.keep_edit_spec.proofs.Lists.BehindLine.{element_back}
use Rattle.keep_edit_spec.specs.Edits as law
use Rattle.keep_edit_spec.specs.ElementRuns.{IsElsewhere}
use Rattle.keep_edit_spec.specs.Runs as runs
use Rattle.keep_edit_plan.specs.Headers.{key_texts}
use Rattle.keep_path.specs.Path.{Part}
use Rattle.keep_edit_runs.specs.KindsRun.{IsAloneAmong}
use Rattle.keep_edit_runs.specs.Runs.{LeavesAlone, outlined}
use Rattle.keep_edit_runs.specs.Tail.{HasElementLike, is_element}
use Rattle.keep_edit_runs.specs.declared.outline.Outline.{Outline}
use Rattle.keep_edit_runs.specs.declared.outline.Outline.TheVariants.{Element, Insert, Remove, Rename, Set, Table}

left_back : (t o : Outline) → is_element t ≡ true → LeavesAlone t o → LeavesAlone o t
left_back (Element keys) o is h = element_back (key_texts keys.now) (outlined o) h
left_back (Table keys) o is h = absurd cc
left_back (Insert path) o is h = absurd cc
left_back (Remove path) o is h = absurd cc
left_back (Set path) o is h = absurd cc
left_back (Rename path name) o is h = absurd cc

leaves_itself : (t : Outline) → is_element t ≡ true → LeavesAlone t t
leaves_itself (Element keys) is = inl refl
leaves_itself (Table keys) is = absurd cc
leaves_itself (Insert path) is = absurd cc
leaves_itself (Remove path) is = absurd cc
leaves_itself (Set path) is = absurd cc
leaves_itself (Rename path name) is = absurd cc

-- the elements among those at the end of the text
abbrev pub AreElementsAlone : List Outline → List Outline → List (List Part) → Type 0
AreElementsAlone outlines tail arrays = All (λ t. is_element t ≡ true → IsAloneAmong outlines tail arrays t) tail

module _ (outlines tail : List Outline) (arrays : List (List Part)) (all : AreElementsAlone outlines tail arrays) where
  pub like_alone : (o : Outline) → HasElementLike tail o → IsAloneAmong outlines tail arrays o
  like_alone o (k, t, lt, read, (is, same)) =
      let own : IsAloneAmong outlines tail arrays t =
      subst (λ (x : Outline). is_element x ≡ true → IsAloneAmong outlines tail arrays x) read (all k t lt) is in
      record {
        edits = subst (λ (e : law.Edit). All (λ (y : Outline). runs.LeavesAlone (outlined y) e) outlines) same
            own.edits;
        tail = subst (λ (e : law.Edit). All (λ (y : Outline). runs.LeavesAlone (outlined y) e) tail) same own.tail;
        elsewhere = subst (λ (e : law.Edit). All (λ (a : List Part). IsElsewhere a e) arrays) same own.elsewhere;
      }

  pub alone_before : (more : List Outline) → All (λ o. All (λ y. LeavesAlone y o) tail) more
      → AreElementsAlone (outlines ++ more) tail arrays
  alone_before more left = λ k d lt is.
      let t : Outline = get_or tail k d in
      let own : IsAloneAmong outlines tail arrays t = all k d lt is in
      record {
        edits = All-append (λ (y : Outline). LeavesAlone y t) outlines more own.edits
            (All-weaker (λ (o : Outline). All (λ y. LeavesAlone y o) tail) (λ (o : Outline). LeavesAlone o t)
            (λ o by_all. left_back t o is (by_all k d lt)) more left);
        tail = own.tail;
        elsewhere = own.elsewhere;
      }

  pub alone_at_end : (o : Outline) → IsAloneAmong outlines tail arrays o
      → AreElementsAlone outlines (tail ++ o ∷ []) arrays
  alone_at_end o alone =
      All-push (λ (t : Outline). is_element t ≡ true → IsAloneAmong outlines (tail ++ o ∷ []) arrays t) tail o
      (λ k d lt is.
      let t : Outline = get_or tail k d in
      let own : IsAloneAmong outlines tail arrays t = all k d lt is in
      record {
        edits = own.edits;
        tail = All-push (λ (y : Outline). LeavesAlone y t) tail o own.tail (left_back t o is (alone.tail k d lt));
        elsewhere = own.elsewhere;
      })
      (λ is. record {
        edits = alone.edits;
        tail = All-push (λ (y : Outline). LeavesAlone y o) tail o alone.tail (leaves_itself o is);
        elsewhere = alone.elsewhere;
      })

  pub alone_apart : (new : List (List Part)) (array : List Part) → new ≡ arrays ++ array ∷ []
      → All (λ o. IsElsewhere array (outlined o)) tail → AreElementsAlone outlines tail new
  alone_apart new array is apart = λ k d lt yes.
      let t : Outline = get_or tail k d in
      let own : IsAloneAmong outlines tail arrays t = all k d lt yes in
      record {
        edits = own.edits;
        tail = own.tail;
        elsewhere = subst (All (λ (a : List Part). IsElsewhere a (outlined t))) (sym is)
            (All-push (λ (a : List Part). IsElsewhere a (outlined t)) arrays array own.elsewhere (apart k d lt));
      }
