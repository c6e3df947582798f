-- Runs of removes that each take a table or an element with its header: the law of one more.
--
-- What `later` says of one remove is that of the first document, where the changes move its own. So the remove is not
-- refused; by the law of `remove` the document after it is editable, and its text lacks the bytes (`text_with_one`). A
-- table or an element whose change is beside it had another path: one path has one change, and a change with bytes is
-- not beside itself (`differ`). So a remove of it makes its change still (StillRemovesHeader), moved once more
-- (`moved_with`), and the path that it had in the first document is found through that before this remove
-- (`first_with`).
--
-- Theorems: `none_is_header_run`, `header_run_goes_on`; `header_still`: the next remove; `first_with`;
-- `header_allowed`, `header_place`, `header_within`.
use Rattle.std.proofs.Common.{◌≡◌, ◌≢◌, ◌+◌, ◌<◌, ◌≤◌, ℕ, List, [], ◌∷◌, ◌++◌, All, length, refl, sym, ap, subst, ◌∙◌}
use Rattle.std.proofs.Common.{arith, None, inl, inr}
use Rattle.keep_types.specs.declared.leaf.Profile.{Profile}
use Rattle.keep_syntax.specs.Tree.{Document, text}
use Rattle.keep_path.specs.Path.{Part}
use Rattle.keep_edit_spec.specs.Changed.{Place, put}
use Rattle.keep_edit_spec.specs.Edits.{Edit, edited_document, place, remove}
use Rattle.keep_edit_spec.specs.Laws.{IsEditable, IsLawfulEdit}
use Rattle.keep_edit_spec.specs.Refusals.{refusal}
use Rattle.keep_edit_spec.specs.RemovedHeaders.{HeaderRunGoesOn, NoneIsHeaderRun, RemovesHeader, first_path}
use Rattle.keep_edit_spec.specs.RemovedHeaders.{path_before}
use Rattle.keep_edit_spec.specs.TextChanges.{Follow, IsBeside, TextChange, moved_by_all, moved_past, place_of_change}
use Rattle.keep_edit_spec.specs.TextChanges.{with_change}
use Rattle.keep_edit_spec.proofs.EditLaws.{change_put, place_within, remove_lawful}
use Rattle.keep_edit_spec.proofs.Lists.StillRemovesHeader.{header_has_bytes, still_removes_header}
use Rattle.keep_edit_spec.proofs.Lists.TextChanges.{beside_past, follow_with, moved_with, one_of_all, rest_of_all}
use Rattle.keep_edit_spec.proofs.Lists.TextChanges.{text_with_one}

pub none_is_header_run : NoneIsHeaderRun
none_is_header_run profile limit s editable = record {
  editable = editable;
  follow = tt;
  text = refl;
  later = λ path c removes beside.
      subst (λ (at : ℕ). RemovesHeader profile limit s path (record c { at = at }))
      (let same : c.at ≡ moved_by_all [] c.at = omega arith in same) removes;
}

-- ---- paths in the first document

pub first_with : (gone : List (List Part)) (path q : List Part)
    → first_path (gone ++ path ∷ []) q ≡ first_path gone (path_before path q)
first_with [] path q = refl
first_with (p ∷ gone) path q = ap (path_before p) (first_with gone path q)

-- ---- one more

module _ (profile : Profile) (limit : ℕ) (s : Document) (path : List Part) (c : TextChange) where
  pub header_allowed : RemovesHeader profile limit s path c → refusal profile limit s (remove path) ≡ None
  header_allowed (inl h) = h.allowed
  header_allowed (inr h) = h.allowed

  pub header_place : RemovesHeader profile limit s path c → place s (remove path) ≡ place_of_change c
  header_place (inl h) = h.is
  header_place (inr h) = h.is

  pub header_within : RemovesHeader profile limit s path c → c.at + c.size ≤ length (text s)
  header_within h = subst (λ (p : Place). p.end ≤ length (text s)) (header_place h) (place_within s (remove path))

-- a change with bytes is not beside one of its place
never_beside : (c d : TextChange) → place_of_change c ≡ place_of_change d → 0 < c.size → IsBeside c d → ⊥
never_beside c d same some (inl before) = omega (arith, ap (λ (p : Place). p.start) same, some, before)
never_beside c d same some (inr after) = omega (arith, ap (λ (p : Place). p.start) same, after.0)

-- so what is taken by changes that are beside each other is of two paths
differ : (profile : Profile) (limit : ℕ) (s : Document) (path : List Part) (c : TextChange) (other : List Part)
    (d : TextChange)
    → IsEditable profile limit s → RemovesHeader profile limit s path c → RemovesHeader profile limit s other d
    → IsBeside c d → path ≢ other
differ profile limit s path c other d fine one two beside same =
    never_beside c d (sym (header_place profile limit s path c one) ∙ ap (λ (p : List Part). place s (remove p)) same
    ∙ header_place profile limit s other d two) (header_has_bytes profile limit s path c fine one) beside

-- What is removed after a run is removed after one more that goes, at the path that it has then.
pub header_still : (profile : Profile) (limit : ℕ) (changes : List TextChange) (now : Document) (path : List Part)
    (c : TextChange)
    → IsEditable profile limit now → Follow 0 changes → RemovesHeader profile limit now path (moved_past changes c)
    → All (λ x. IsBeside x c) changes → (other : List Part) (d : TextChange)
    → RemovesHeader profile limit now (path_before path other) (moved_past changes d)
    → All (λ x. IsBeside x d) (with_change changes c)
    → RemovesHeader profile limit (edited_document now (remove path)) other (moved_past (with_change changes c) d)
header_still profile limit changes now path c fine follow is_now beside other d next beside' =
    let others : All (λ x. IsBeside x d) changes = rest_of_all (λ x. IsBeside x d) changes c beside' in
    let one : IsBeside c d = one_of_all (λ x. IsBeside x d) changes c beside' in
    subst (RemovesHeader profile limit (edited_document now (remove path)) other)
    (sym (moved_with changes c d follow beside others one))
    (still_removes_header profile limit now path (moved_past changes c) other (moved_past changes d) fine is_now next
    (differ profile limit now path (moved_past changes c) (path_before path other) (moved_past changes d) fine is_now
    next (beside_past changes c d follow beside others one)))

pub header_run_goes_on : HeaderRunGoesOn
header_run_goes_on profile limit s gone changes now path c r removes beside =
    let e : Edit = remove path in
    let there : TextChange = moved_past changes c in
    let is_now : RemovesHeader profile limit now path there = r.later path c removes beside in
    let allowed : refusal profile limit now e ≡ None = header_allowed profile limit now path there is_now in
    let is : place now e ≡ place_of_change there = header_place profile limit now path there is_now in
    let lawful : IsLawfulEdit profile limit now e = remove_lawful profile limit now path r.editable allowed in
    record {
      allowed = allowed;
      is = is;
      run = record {
        editable = record {
          valid = lawful.reads.valid;
          shallow = lawful.reads.shallow;
          obeys = lawful.obeys;
        };
        follow = follow_with 0 changes c (omega arith) r.follow beside;
        text = change_put now e ∙ ap (put (text now)) is
            ∙ ap (λ (t : List ℕ). put t (place_of_change there)) r.text
            ∙ sym (text_with_one (text s) changes c
            (header_within profile limit s (first_path gone path) c removes) r.follow beside);
        later = λ other d removes' beside'.
            header_still profile limit changes now path c r.editable r.follow is_now beside other d
            (r.later (path_before path other) d (subst (λ (q : List Part). RemovesHeader profile limit s q d)
            (first_with gone path other) removes') (rest_of_all (λ x. IsBeside x d) changes c beside')) beside';
      };
    }
