-- What lines say beside an element that is taken out: all of it goes where its paths go.
--
-- The same lines are read twice, as in the old document and as in the new, and the two readings stay alike but for the
-- change of paths (`AreShifted`). `line_shift` does this for one line. A keyval's paths go where the body's path goes
-- (`keyval_shifted`), a header's way and its path go by `way_shift`, and the element that a `[[..]]` line begins has
-- the changed path (`begun_shift`), with the counts after it alike again (`next_shift`). The lines have to be beside
-- the element (`IsBeside`), and begin elements of the array only with lesser numbers or only with greater ones
-- (`IsStop`). As no count goes down (`lines_more`), each line has this if all together have it, and `lines_shift` is an
-- induction over the lines.
--
-- Theorem: `lines_shift`.
use Rattle.std.proofs.Common.{◌≡◌, ℕ, ◌≤◌, List, [], ◌∷◌, ◌++◌, map, refl, sym, ap, subst, ◌∙◌, arith, Option, None}
use Rattle.std.proofs.Common.{inl, inr}
use Rattle.std.proofs.lemmas.List.{map-append}
use Rattle.keep_syntax.specs.Tree.{Written, Gap, Content, blank, keyval, header, element, Line}
use Rattle.keep_path.specs.Path.{Part, index}
use Rattle.keep_meaning.specs.Marks as marks_of
use Rattle.keep_meaning.specs.Marks.{define, begun, Mention, Reading, elements_of, header_path, header_prefixes}
use Rattle.keep_meaning.specs.Meaning.{keys_of, keyval_mentions, line_mentions, after_line, lines_mentions}
use Rattle.keep_meaning.specs.Meaning.{reading_after_lines}
use Rattle.keep_edit_spec.specs.Look.{strip}
use Rattle.keep_edit_spec.specs.Lines.{key_prefixes}
use Rattle.keep_edit_spec.proofs.Common.HeadersGo.{Goes}
use Rattle.keep_edit_spec.proofs.Common.HeadersSay.{Says}
use Rattle.keep_edit_spec.proofs.Common.Runs.{AllOf, all_left, all_right, all_join, all_map, IsDisjoint}
use Rattle.keep_edit_spec.proofs.Common.LineLaws.{EndsInKey}
use Rattle.keep_edit_spec.proofs.Common.Moves.{moved}
use Rattle.keep_edit_spec.proofs.Remove.KeyvalMentions.{starts_keyval}
use Rattle.keep_edit_spec.proofs.Remove.PartsGo.{HeaderParts, PartsGo}
use Rattle.keep_edit_spec.proofs.Remove.Shift.{shifted, element_at, disjoint_root, shifted_root}
use Rattle.keep_edit_spec.proofs.Remove.ShiftPrefixes.{IsShift, NotPassed, IsWayShift, elements_more, way_shift}
use Rattle.keep_edit_spec.proofs.Remove.ShiftLines.{IsBeside, AreShifted, IsStop, keyval_preserved, keyval_shifted}
use Rattle.keep_edit_spec.proofs.Remove.ShiftLines.{near_all, begun_shift, next_shift}

pub record IsLineShift (prefix : List Part) (n : ℕ) (r u : Reading) (l : Line) : Type 0 where
  pub mentioned : line_mentions u l ≡ map (moved (shifted prefix n)) (line_mentions r l)
  pub preserved : AllOf (IsDisjoint (element_at prefix n)) (line_mentions r l)
  pub next : AreShifted prefix n (after_line r l) (after_line u l)
  pub parts : HeaderParts (λ q. strip (element_at prefix n) q ≡ None) (shifted prefix n) r u l

module _ (prefix : List Part) (ends : EndsInKey prefix) (n : ℕ) (r u : Reading) (h : AreShifted prefix n r u) where
  -- a header's way and path, from the root
  way_root : (keys : List (List ℕ)) → AllOf (IsBeside prefix n) (header_prefixes r.tables [] keys)
      → IsWayShift prefix n r.tables u.tables [] keys
  way_root keys all =
      way_shift prefix ends n r.tables u.tables h.tables [] keys (disjoint_root prefix n ends)
      (all_map (IsBeside prefix n) (NotPassed (element_at prefix n)) (λ m x. x.1) (header_prefixes r.tables [] keys)
      all)

  way_mentioned : (keys : List (List ℕ)) → IsWayShift prefix n r.tables u.tables [] keys
      → header_prefixes u.tables [] keys ≡ map (moved (shifted prefix n)) (header_prefixes r.tables [] keys)
  way_mentioned keys w =
      ap (λ (x : List Part). header_prefixes u.tables x keys) (sym (shifted_root prefix n ends)) ∙ w.prefixes

  path_is : (keys : List (List ℕ)) → IsWayShift prefix n r.tables u.tables [] keys
      → header_path u.tables [] keys ≡ shifted prefix n (header_path r.tables [] keys)
  path_is keys w = ap (λ (x : List Part). header_path u.tables x keys) (sym (shifted_root prefix n ends)) ∙ w.path

  parts_are : (keys : List (List ℕ)) → IsWayShift prefix n r.tables u.tables [] keys
      → map (header_path u.tables []) (key_prefixes keys)
      ≡ map (shifted prefix n) (map (header_path r.tables []) (key_prefixes keys))
  parts_are keys w =
      ap (λ (x : List Part). map (header_path u.tables x) (key_prefixes keys)) (sym (shifted_root prefix n ends))
      ∙ w.parts

  content_shift : (before after' : Gap) (comment : Option Written) (c : Content)
      → (let l : Line = record { before = before; content = c; after = after'; comment = comment } in
      AllOf (IsBeside prefix n) (line_mentions r l)
      → IsStop n (elements_of prefix r.tables) (elements_of prefix (after_line r l).tables)
      → IsLineShift prefix n r u l)
  content_shift before after' comment blank all stop =
      record { mentioned = refl; preserved = tt; next = h; parts = λ e. absurd cc }
  content_shift before after' comment (keyval name v) all stop =
      let near =
      near_all prefix ends n r (record { before = before; content = keyval name v; after = after'; comment = comment })
      name v refl all in
      record {
        mentioned =
            ap (λ (q : List Part). map (marks_of.below q) (keyval_mentions name v)) h.body
            ∙ keyval_shifted prefix n r.body (keyval_mentions name v) (starts_keyval name v) near;
        preserved = keyval_preserved prefix n r.body (keyval_mentions name v) (starts_keyval name v) near h.preserved;
        next = h;
        parts = λ e. absurd cc;
      }
  content_shift before after' comment (header b k a) all stop =
      let keys : List (List ℕ) = keys_of k in
      let prefixes : List Mention = header_prefixes r.tables [] keys in
      let at : List Part = header_path r.tables [] keys in
      let end : List Mention = record { path = at; kind = define } ∷ [] in
      let w = way_root keys (all_left (IsBeside prefix n) prefixes end all) in
      record {
        mentioned =
            ap (λ (x : List Mention). x ++ record { path = header_path u.tables [] keys; kind = define } ∷ [])
            (way_mentioned keys w)
            ∙ ap (λ (q : List Part). map (moved (shifted prefix n)) prefixes ++ record { path = q; kind = define } ∷ [])
            (path_is keys w)
            ∙ sym (map-append (moved (shifted prefix n)) prefixes end);
        preserved = all_join (IsDisjoint (element_at prefix n)) prefixes end w.way_preserved (w.path_preserved, tt);
        next = record { tables = h.tables; body = path_is keys w; preserved = w.path_preserved };
        parts = λ e. (w.parts_preserved, parts_are keys w);
      }
  content_shift before after' comment (element b k a) all stop =
      let keys : List (List ℕ) = keys_of k in
      let prefixes : List Mention = header_prefixes r.tables [] keys in
      let at : List Part = header_path r.tables [] keys in
      let two : List Part → List (List Part) → List Mention =
      λ q ts. record { path = q; kind = marks_of.element }
      ∷ record { path = q ++ index (elements_of q ts) ∷ []; kind = begun } ∷ [] in
      let w = way_root keys (all_left (IsBeside prefix n) prefixes (two at r.tables) all) in
      let begins = begun_shift prefix ends n r.tables u.tables h.tables at w.path_preserved stop in
      record {
        mentioned = ap (λ (x : List Mention). x ++ two (header_path u.tables [] keys) u.tables) (way_mentioned keys w)
            ∙ ap (λ (q : List Part). map (moved (shifted prefix n)) prefixes ++ two q u.tables) (path_is keys w)
            ∙ ap (λ (q : List Part).
            map (moved (shifted prefix n)) prefixes
            ++ (record { path = shifted prefix n at; kind = marks_of.element } ∷ record { path = q; kind = begun }
            ∷ [])) (sym begins.is)
            ∙ sym (map-append (moved (shifted prefix n)) prefixes (two at r.tables));
        preserved =
            all_join (IsDisjoint (element_at prefix n)) prefixes (two at r.tables) w.way_preserved
            (w.path_preserved, (begins.preserved, tt));
        next = record {
          tables =
              subst_tables at (header_path u.tables [] keys) (path_is keys w)
              (next_shift prefix ends n r.tables u.tables h.tables at w.path_preserved stop);
          body = ap (λ (q : List Part). q ++ index (elements_of q u.tables) ∷ []) (path_is keys w) ∙ sym begins.is;
          preserved = begins.preserved;
        };
        parts = λ e. (w.parts_preserved, parts_are keys w);
      }
    where
      subst_tables : (at to : List Part) → to ≡ shifted prefix n at
          → IsShift prefix n (r.tables ++ at ∷ []) (u.tables ++ shifted prefix n at ∷ [])
          → IsShift prefix n (r.tables ++ at ∷ []) (u.tables ++ to ∷ [])
      subst_tables at to e x =
          subst (λ (q : List Part). IsShift prefix n (r.tables ++ at ∷ []) (u.tables ++ q ∷ [])) (sym e) x

  line_shift : (l : Line) → AllOf (IsBeside prefix n) (line_mentions r l)
      → IsStop n (elements_of prefix r.tables) (elements_of prefix (after_line r l).tables) → IsLineShift prefix n r u l
  line_shift l all stop = content_shift l.before l.after l.comment l.content all stop

-- ---- lines never take an element back

content_more : (q : List Part) (r : Reading) (before after' : Gap) (comment : Option Written) (c : Content)
    → (let l : Line = record { before = before; content = c; after = after'; comment = comment } in
    elements_of q r.tables ≤ elements_of q (after_line r l).tables)
content_more q r before after' comment blank = omega arith
content_more q r before after' comment (keyval name v) = omega arith
content_more q r before after' comment (header b k a) = omega arith
content_more q r before after' comment (element b k a) =
    omega (arith, elements_more q (header_path r.tables [] (keys_of k)) r.tables)

line_more : (q : List Part) (r : Reading) (l : Line) → elements_of q r.tables ≤ elements_of q (after_line r l).tables
line_more q r l = content_more q r l.before l.after l.comment l.content

pub lines_more : (q : List Part) (r : Reading) (ls : List Line)
    → elements_of q r.tables ≤ elements_of q (reading_after_lines r ls).tables
lines_more q r [] = omega arith
lines_more q r (l ∷ ls) = omega (arith, line_more q r l, lines_more q (after_line r l) ls)

-- ---- lines

pub record AreLinesShift (prefix : List Part) (n : ℕ) (r u : Reading) (ls : List Line) : Type 0 where
  pub mentioned : lines_mentions u ls ≡ map (moved (shifted prefix n)) (lines_mentions r ls)
  pub preserved : AllOf (IsDisjoint (element_at prefix n)) (lines_mentions r ls)
  pub next : AreShifted prefix n (reading_after_lines r ls) (reading_after_lines u ls)
  pub go : Goes (λ q. strip (element_at prefix n) q ≡ None) (shifted prefix n) r u ls
  pub says : Says (λ q. strip (element_at prefix n) q ≡ None) (shifted prefix n) r u ls
  pub parts : PartsGo (λ q. strip (element_at prefix n) q ≡ None) (shifted prefix n) r u ls

-- Lines that begin elements only with lesser numbers, or only with greater ones.
pub lines_shift : (prefix : List Part) → EndsInKey prefix → (n : ℕ) (r u : Reading) (ls : List Line)
    → AreShifted prefix n r u → AllOf (IsBeside prefix n) (lines_mentions r ls)
    → IsStop n (elements_of prefix r.tables) (elements_of prefix (reading_after_lines r ls).tables)
    → AreLinesShift prefix n r u ls
lines_shift prefix ends n r u [] h all stop = record {
  mentioned = refl;
  preserved = tt;
  next = h;
  go = tt;
  says = tt;
  parts = tt;
}
lines_shift prefix ends n r u (l ∷ ls) h all stop =
    let r' : Reading = after_line r l in
    let here : List Mention = line_mentions r l in
    let rest : List Mention = lines_mentions r' ls in
    let now : IsStop n (elements_of prefix r.tables) (elements_of prefix r'.tables) =
    elim stop [ inl s ↦ inl (omega (arith, s, lines_more prefix r' ls)) | inr g ↦ inr g ] in
    let later : IsStop n (elements_of prefix r'.tables) (elements_of prefix (reading_after_lines r' ls).tables) =
    elim stop [ inl s ↦ inl s | inr g ↦ inr (omega (arith, g, line_more prefix r l)) ] in
    let one = line_shift prefix ends n r u h l (all_left (IsBeside prefix n) here rest all) now in
    let ih =
    lines_shift prefix ends n r' (after_line u l) ls one.next (all_right (IsBeside prefix n) here rest all) later in
    record {
      mentioned = ap (λ (x : List Mention). x ++ lines_mentions (after_line u l) ls) one.mentioned
          ∙ ap (λ (x : List Mention). map (moved (shifted prefix n)) here ++ x) ih.mentioned
          ∙ sym (map-append (moved (shifted prefix n)) here rest);
      preserved = all_join (IsDisjoint (element_at prefix n)) here rest one.preserved ih.preserved;
      next = ih.next;
      go = ((λ e. (one.next.preserved, one.next.body)), ih.go);
      says = ((λ e. (one.mentioned, one.preserved)), ih.says);
      parts = (one.parts, ih.parts);
    }
