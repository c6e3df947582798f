-- What is left of a document once a table or an element is taken with its header: the mentions but for a run at and
-- under its path, at the paths that they have now, and the headers with them.
--
-- After a table no path is another (`table_left`). After an element the numbers of the later ones of its array are one
-- lower (`element_left`): of the element's header the lines before it and after it are known by `element_cut`.
--
-- Theorems: `cut`, `table_left`, `element_left`; `section_read`: the reading past a table.
use Rattle.std.proofs.Common.{◌≡◌, ℕ, false, List, [], ◌∷◌, ◌++◌, map, drop, refl, sym, ap, subst, ◌∙◌}
use Rattle.std.proofs.Common.{append_assoc, Option, None}
use Rattle.std.specs.Prelude.{⊤}
use Rattle.std.proofs.lemmas.List.{map-append}
use Rattle.keep_types.specs.declared.leaf.Profile.{Profile}
use Rattle.keep_syntax.specs.Tree.{Written, Gap, Content, Line, Document}
use Rattle.keep_path.specs.Path.{Part, strip}
use Rattle.keep_meaning.specs.Marks.{Mention, Reading, elements_of, header_path, start}
use Rattle.keep_meaning.specs.Meaning.{after_line, further_value, key_value, keys_of, line_mentions, line_of, lines}
use Rattle.keep_meaning.specs.Meaning.{lines_mentions, mentions_in, reading_after_lines}
use Rattle.keep_meaning.specs.Nodes.{has, is_passed, is_through}
use Rattle.keep_edit_spec.specs.Laws.{IsEditable}
use Rattle.keep_edit_spec.specs.Lines.{body_length}
use Rattle.keep_edit_spec.specs.RemovedHeaders.{RemovesElement}
use Rattle.keep_edit_spec.specs.RemovedSections.{RemovesSection}
use Rattle.keep_edit_spec.specs.TextChanges.{TextChange}
use Rattle.keep_edit_spec.proofs.Common.Cuts.{IsCut}
use Rattle.keep_edit_spec.proofs.Common.FromMarksLines.{path_ends}
use Rattle.keep_edit_spec.proofs.Common.HeadersGo.{Goes, goes_bodies, goes_still, with_body}
use Rattle.keep_edit_spec.proofs.Common.HeadersSay.{Says, says_bodies}
use Rattle.keep_edit_spec.proofs.Common.LineLaws.{EndsInKey, lines_mentions-append}
use Rattle.keep_edit_spec.proofs.Common.Moves.{IsInjectiveOn, moved}
use Rattle.keep_edit_spec.proofs.Common.Runs.{AllOf, IsDisjoint, Rules, all_join}
use Rattle.keep_edit_spec.proofs.Lists.HeaderTaken as taken_of
use Rattle.keep_edit_spec.proofs.Lists.HeaderTaken.{IsHeaderTaken, element_ends, element_is, element_taken, table_ends}
use Rattle.keep_edit_spec.proofs.Lists.HeaderTaken.{table_is, table_taken}
use Rattle.keep_edit_spec.proofs.Lists.SectionAt.{IsSectionAt, lines_were}
use Rattle.keep_edit_spec.proofs.Lists.SectionsApart.{after, body_keeps, more, more_left, r, without}
use Rattle.keep_edit_spec.proofs.Remove.PartsGo.{PartsGo, parts_bodies, parts_still}
use Rattle.keep_edit_spec.proofs.Remove.RemoveElement.{IsElementCut, IsElementLine, begins_element, element_cut}
use Rattle.keep_edit_spec.proofs.Remove.RemoveSection.{IsSection, begins_section, body_is, section_cut}
use Rattle.keep_edit_spec.proofs.Remove.Shift.{disjoint_root, element_at, shifted, shifted-injective, shifted_root}

-- Paths go where `f` takes them, those that pass `D` to different ones; so do those of the key parts of headers after
-- it, and of what those say. `mid` is what the others said, read with it.
pub record IsLeft (D : List Part → Type 0) (f : List Part → List Part) (s : Document) (path : List Part)
    (at : IsSectionAt s path) : Type 0 where
  pub inj : IsInjectiveOn D f
  pub root_apart : D []
  pub root_stays : f [] ≡ []
  pub before : Goes D f start start (map line_of at.first)
  pub behind : Goes D f (after_line (r s path at) at.head.line) (r s path at) (more s path at)
  pub says : Says D f (after_line (r s path at) at.head.line) (r s path at) (more s path at)
  pub parts : PartsGo D f (after_line (r s path at) at.head.line) (r s path at) (more s path at)
  pub mid : List Mention
  pub mid_is : mid
      ≡ lines_mentions start (map line_of at.first)
      ++ lines_mentions (after_line (r s path at) at.head.line) (more s path at)
  pub cut : IsCut path (mentions_in s) mid
  pub said : mentions_in (without s path at) ≡ map (moved f) mid
  pub apart : AllOf (λ m. D m.path) mid

-- what the lines say without those of the section
said_without : (s : Document) (path : List Part) (at : IsSectionAt s path)
    → mentions_in (without s path at)
    ≡ lines_mentions start (map line_of at.first)
    ++ lines_mentions (r s path at) (drop (body_length (after s path at)) (after s path at))
said_without s path at =
    let pre : List Line = map line_of at.first in
    ap (lines_mentions start)
    (ap (λ (ls : List Line). ls ++ s.last ∷ []) (map-append line_of at.first at.more)
    ∙ append_assoc pre (map line_of at.more) (s.last ∷ []))
    ∙ lines_mentions-append start pre (more s path at)
    ∙ ap (λ (ls : List Line). lines_mentions start pre ++ lines_mentions (r s path at) ls)
    (sym (more_left s path at))

-- ---- a table

map_still : (ms : List Mention) → map (moved (λ q. q)) ms ≡ ms
map_still [] = refl
map_still (m ∷ ms) = ap (λ (l : List Mention). m ∷ l) (map_still ms)

all_apart : (ms : List Mention) → AllOf (λ (m : Mention). ⊤) ms
all_apart [] = tt
all_apart (m ∷ ms) = (tt, all_apart ms)

says_still : (r : Reading) (ls : List Line) → Says (λ q. ⊤) (λ q. q) r r ls
says_still r [] = tt
says_still r (l ∷ ls) =
    ((λ e. (sym (map_still (line_mentions r l)), all_apart (line_mentions r l))), says_still (after_line r l) ls)

module _ (profile : Profile) (limit : ℕ) (s : Document) (path : List Part) (c : TextChange)
    (fine : IsEditable profile limit s) (h : RemovesSection profile limit s path c) where
  abbrev taken : IsHeaderTaken profile limit s path c
  taken = table_taken profile limit s path c fine h

  abbrev at : IsSectionAt s path
  at = taken.at

  ends : EndsInKey path
  ends = table_ends profile limit s path c fine h

  abbrev x : Reading
  x = r s path at

  its : IsSection x path at.head.line.content
  its = begins_section path x at.head.line.before at.head.line.after at.head.line.comment at.head.line.content ends
      at.passes

  after_is : after_line x at.head.line ≡ with_body path x
  after_is = by at.head.line.before at.head.line.after at.head.line.comment at.head.line.content its
    where
      by : (before after : Gap) (comment : Option Written) (c : Content) → IsSection x path c
          → after_line x (record { before = before; content = c; after = after; comment = comment })
          ≡ with_body path x
      by before after comment c i =
          ap (λ (c : Content).
          after_line x (record { before = before; content = c; after = after; comment = comment })) i.was
          ∙ ap (λ (p : List Part). with_body p x) i.place

  -- past its header and its body only the body's path is another
  pub section_read : reading_after_lines x (at.head.line ∷ map line_of at.body) ≡ with_body path x
  section_read = body_keeps s path at (after_line x at.head.line) ∙ after_is

  abbrev pre : List Line
  pre = map line_of at.first

  abbrev post : List Line
  post = after s path at

  pub cut : IsCut path (mentions_in s) (mentions_in (without s path at))
  cut =
      let p : List Part = header_path x.tables [] (keys_of its.keys) in
      let was : lines s ≡ pre ++ at.head.line ∷ post = lines_were s path at in
      let one : IsCut p (lines_mentions start (pre ++ at.head.line ∷ post))
      (lines_mentions start pre ++ lines_mentions x (drop (body_length post) post)) =
      section_cut pre post at.head.line its.before its.keys its.after its.was (subst EndsInKey (sym its.place) ends)
      (subst (λ (ls : List Line). Rules (lines_mentions start ls)) was
      (taken_of.rules profile limit s path c fine taken))
      (subst (λ (q : List Part). has is_through q (lines_mentions start (pre ++ at.head.line ∷ post)) ≡ false)
      (sym its.place)
      (subst (λ (ls : List Line). has is_through path (lines_mentions start ls) ≡ false) was
      (table_is profile limit s path c fine h).1)) in
      subst (λ (q : List Part). IsCut q (mentions_in s) (mentions_in (without s path at))) its.place
      (subst (λ (ms : List Mention). IsCut p ms (mentions_in (without s path at)))
      (sym (ap (lines_mentions start) was))
      (subst (IsCut p (lines_mentions start (pre ++ at.head.line ∷ post))) (sym (said_without s path at)) one))

  pub table_left : IsLeft (λ q. ⊤) (λ q. q) s path at
  table_left = record {
    inj = λ a b x y e. e;
    root_apart = tt;
    root_stays = refl;
    before = goes_still start pre;
    behind = subst (λ (u : Reading). Goes (λ q. ⊤) (λ q. q) u x (more s path at)) (sym after_is)
        (goes_bodies (λ q. ⊤) (λ q. q) path x.body x x (more s path at) (goes_still x (more s path at)));
    says = subst (λ (u : Reading). Says (λ q. ⊤) (λ q. q) u x (more s path at)) (sym after_is)
        (says_bodies (λ q. ⊤) (λ q. q) path x.body x x (more s path at) (says_still x (more s path at)));
    parts = subst (λ (u : Reading). PartsGo (λ q. ⊤) (λ q. q) u x (more s path at)) (sym after_is)
        (parts_bodies (λ q. ⊤) (λ q. q) path x.body x x (more s path at) (parts_still x (more s path at)));
    mid = mentions_in (without s path at);
    mid_is = said_without s path at
        ∙ ap (λ (ms : List Mention). lines_mentions start pre ++ ms)
        (sym ((body_is (with_body path x) post).further x.body)
        ∙ ap (lines_mentions (with_body path x)) (more_left s path at)
        ∙ ap (λ (u : Reading). lines_mentions u (more s path at)) (sym after_is));
    cut = cut;
    said = sym (map_still (mentions_in (without s path at)));
    apart = all_apart (mentions_in (without s path at));
  }

-- ---- an element

module _ (profile : Profile) (limit : ℕ) (s : Document) (path : List Part) (c : TextChange)
    (fine : IsEditable profile limit s) (h : RemovesElement profile limit s path c) where
  abbrev got : IsHeaderTaken profile limit s path c
  got = element_taken profile limit s path c fine h

  abbrev here : IsSectionAt s path
  here = got.at

  abbrev y : Reading
  y = r s path here

  pub line : IsElementLine y path here.head.line.content
  line = begins_element path y here.head.line.before here.head.line.after here.head.line.comment
      here.head.line.content (λ ends. element_ends s path h.begun ends) here.passes

  -- its array, and its number there
  abbrev pub array : List Part
  array = header_path y.tables [] (keys_of line.keys)

  abbrev pub number : ℕ
  number = elements_of array y.tables

  pub path_is : element_at array number ≡ path
  path_is = line.place

  array_ends : EndsInKey array
  array_ends = path_ends y.tables [] (key_value line.keys.first) (map further_value line.keys.more)

  abbrev ahead : List Line
  ahead = map line_of here.first

  abbrev following : List Line
  following = after s path here

  abbrev left_over : List Line
  left_over = drop (body_length following) following

  abbrev pub stays : List Part → Type 0
  stays q = strip (element_at array number) q ≡ None

  abbrev goes : List Part → List Part
  goes = shifted array number

  its_cut : IsElementCut (element_at array number) goes (lines_mentions start (ahead ++ here.head.line ∷ following))
      (lines_mentions start ahead ++ lines_mentions y left_over) (after_line y here.head.line) y ahead left_over
  its_cut =
      let was : lines s ≡ ahead ++ here.head.line ∷ following = lines_were s path here in
      element_cut ahead following here.head.line line.before line.keys line.after line.was
      (subst (λ (ls : List Line). Rules (lines_mentions start ls)) was
      (taken_of.rules profile limit s path c fine got))
      (subst (λ (q : List Part). has is_passed q (lines_mentions start (ahead ++ here.head.line ∷ following)) ≡ false)
      (sym path_is)
      (subst (λ (ls : List Line). has is_passed path (lines_mentions start ls) ≡ false) was
      (element_is profile limit s path c fine h).1))

  all_stay : AllOf (λ (m : Mention). stays m.path) its_cut.mid
  all_stay =
      subst (AllOf (λ (m : Mention). stays m.path)) (sym its_cut.cut.is)
      (all_join (IsDisjoint (element_at array number)) its_cut.cut.before its_cut.cut.after
      its_cut.cut.disjoint_before its_cut.cut.disjoint_after)

  pub element_left : IsLeft stays goes s path here
  element_left = record {
    inj = shifted-injective array number;
    root_apart = disjoint_root array number array_ends;
    root_stays = shifted_root array number array_ends;
    before = its_cut.before;
    behind = subst (λ (ls : List Line). Goes stays goes (after_line y here.head.line) y ls) (more_left s path here)
        its_cut.behind;
    says = subst (λ (ls : List Line). Says stays goes (after_line y here.head.line) y ls) (more_left s path here)
        its_cut.says;
    parts = subst (λ (ls : List Line). PartsGo stays goes (after_line y here.head.line) y ls) (more_left s path here)
        its_cut.parts;
    mid = its_cut.mid;
    mid_is = its_cut.mid_is
        ∙ ap (λ (ls : List Line).
        lines_mentions start ahead ++ lines_mentions (after_line y here.head.line) ls) (more_left s path here);
    cut = subst (λ (q : List Part). IsCut q (mentions_in s) its_cut.mid) path_is
        (subst (λ (ms : List Mention). IsCut (element_at array number) ms its_cut.mid)
        (sym (ap (lines_mentions start) (lines_were s path here))) its_cut.cut);
    said = said_without s path here ∙ its_cut.is;
    apart = all_stay;
  }
