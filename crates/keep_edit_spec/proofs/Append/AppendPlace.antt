-- Where an append writes, and what: the last byte of the text tells whether its last line has a newline.
--
-- A text is its byte order mark, its lines with newlines and its last line (`text_is`). The last line has bytes, and
-- then the text does not end in a line feed; or it has none, and then the text ends in one, or has no line
-- (`last_written`, `lines_written`, `none_written`). In each case the change that `append` makes is a cut at the end.
-- Theorem: `append_place`.
use Rattle.std.proofs.Common.{◌≡◌, ℕ, suc, ◌+◌, ◌<◌, Bool, true, false, cond, ◌&&◌, ◌==◌, List, [], ◌∷◌, ◌++◌, length}
use Rattle.std.proofs.Common.{map, refl, sym, ap, subst, ◌∙◌, append_assoc, length-append, arith}
use Rattle.std.specs.List.{flat_map, AllByRecursion}
use Rattle.std.proofs.lemmas.Bool.Decides.{nat_tests}
use Rattle.std.proofs.lemmas.List.{append-nil}
use Rattle.keep_types.specs.declared.leaf.Leaf.TheVariants as leaf
use Rattle.keep_types.specs.declared.leaf.Profile.{Profile}
use Rattle.keep_token.specs.Pieces.{first}
use Rattle.keep_syntax.specs.Tree.{Written, Content, blank, Line, Ended, Document, token, line_leaves, ended_leaves}
use Rattle.keep_syntax.specs.Tree.{bom_leaves, text_of, text}
use Rattle.keep_syntax.specs.Grammar.{IsEnded, IsDocument}
use Rattle.keep_edit_spec.specs.Changed.{Changed, Place, place_of, framed_change}
use Rattle.keep_edit_spec.specs.Edits.{at_line, append, changed_or_same}
use Rattle.keep_edit_spec.specs.Lines.{Page, ended_text, line_text, content_text, with_page, is_empty, is_empty_list}
use Rattle.keep_edit_spec.specs.Lines.{newline_of, new_line, put_lines}
use Rattle.keep_edit_spec.specs.TextEnds.{ends_in_newline, is_bare_start, header_at_end}
use Rattle.keep_edit_spec.proofs.Common.LineEnds.{ends_after, line_quiet, line_some, ended_ends}
use Rattle.keep_edit_spec.proofs.Common.Texts.{text_of-append}
use Rattle.keep_edit_spec.proofs.Remove.RemoveLinePlace.{is_high, page_low}

-- ---- the text

pub text_is : (s : Document) → text s ≡ text_of (bom_leaves s.bom) ++ (ended_text s.ended ++ line_text s.last)
text_is s =
    text_of-append (bom_leaves s.bom) (flat_map ended_leaves s.ended ++ (line_leaves s.last ++ token leaf.End []))
    ∙ ap (λ (t : List ℕ). text_of (bom_leaves s.bom) ++ t)
    (text_of-append (flat_map ended_leaves s.ended) (line_leaves s.last ++ token leaf.End [])
    ∙ ap (λ (t : List ℕ). ended_text s.ended ++ t)
    (text_of-append (line_leaves s.last) (token leaf.End []) ∙ append-nil (line_text s.last)))

pub empty_text : (l : Line) → is_empty l ≡ true → line_text l ≡ []
empty_text l h = ap text_of (by (line_leaves l) h)
  where
    by : (ws : List Written) → is_empty_list ws ≡ true → ws ≡ []
    by [] h = refl
    by (w ∷ ws) h = absurd cc

-- what is no text but for a byte order mark
bare_low : (t : List ℕ) → 0 < length t → is_high (first t) ≡ false → is_bare_start t ≡ false
bare_low [] some low = absurd (omega arith)
bare_low (a ∷ []) some low = refl
bare_low (a ∷ b ∷ []) some low = refl
bare_low (a ∷ b ∷ c ∷ d ∷ t) some low = refl
bare_low (a ∷ b ∷ c ∷ []) some low =
    let other : (a == 0xEF) ≡ false = grind (arith, nat_tests) in
    ap (λ (x : Bool). (x && b == 0xBB) && c == 0xBF) other

bare_marked : (t : List ℕ) → 0 < length t → is_bare_start (0xEF ∷ 0xBB ∷ 0xBF ∷ t) ≡ false
bare_marked [] some = absurd (omega arith)
bare_marked (x ∷ t) some = refl

some_text : (bom : Bool) (t : List ℕ) → 0 < length t → is_high (first t) ≡ false
    → is_bare_start (text_of (bom_leaves bom) ++ t) ≡ false
some_text true t some low = bare_marked t some
some_text false t some low = bare_low t some low

no_text : (bom : Bool) → is_bare_start (text_of (bom_leaves bom) ++ []) ≡ true
no_text true = refl
no_text false = refl

-- ---- lines put in at the end

-- the cut at a place of the text, with what is written there
pub record IsCutAt (at : ℕ) (given : List ℕ) (c : Changed Page) : Type 0 where
  pub start : length c.before ≡ at
  pub old : c.old ≡ []
  pub new : c.new ≡ given

pub before_last : (new : List Ended) (newline : Written) (es : List Ended) (last : Line)
    → IsCutAt (length (ended_text es)) (ended_text new) (put_lines (length es) new newline es last)
before_last new newline [] last = record { start = refl; old = refl; new = refl }
before_last new newline (e ∷ es) last =
    let h = before_last new newline es last in
    record {
      start = omega (
        arith,
        length-append (text_of (ended_leaves e)) (put_lines (length es) new newline es last).before,
        h.start,
        length-append (text_of (ended_leaves e)) (ended_text es),
        ap (λ (t : List ℕ). length t) (text_of-append (ended_leaves e) (flat_map ended_leaves es)),
      );
      old = h.old;
      new = h.new;
    }

after_last : (new : List Ended) (newline : Written) (es : List Ended) (last : Line)
    → IsCutAt (length (ended_text es) + length (line_text last)) (newline.text ++ ended_text new)
    (put_lines (suc (length es)) new newline es last)
after_last new newline [] last = record { start = omega arith; old = refl; new = refl }
after_last new newline (e ∷ es) last =
    let h = after_last new newline es last in
    record {
      start = omega (
        arith,
        length-append (text_of (ended_leaves e)) (put_lines (suc (length es)) new newline es last).before,
        h.start,
        length-append (text_of (ended_leaves e)) (ended_text es),
        ap (λ (t : List ℕ). length t) (text_of-append (ended_leaves e) (flat_map ended_leaves es)),
      );
      old = h.old;
      new = h.new;
    }

-- the place of a cut at the end of the text
end_place : (s : Document) (new : List ℕ) (c : Changed Page)
    → IsCutAt (length (ended_text s.ended) + length (line_text s.last)) new c
    → place_of (framed_change (with_page s) (text_of (bom_leaves s.bom)) [] c)
    ≡ record { start = length (text s); end = length (text s); new = new }
end_place s new c h =
    let long : length (text_of (bom_leaves s.bom) ++ c.before) ≡ length (text s) =
    omega (
      arith,
      h.start,
      length-append (text_of (bom_leaves s.bom)) c.before,
      ap (λ (t : List ℕ). length t) (text_is s),
      length-append (text_of (bom_leaves s.bom)) (ended_text s.ended ++ line_text s.last),
      length-append (ended_text s.ended) (line_text s.last),
    ) in
    let end : length (text_of (bom_leaves s.bom) ++ c.before) + length c.old ≡ length (text s) =
    omega (arith, long, ap (λ (t : List ℕ). length t) h.old) in
    same (length (text_of (bom_leaves s.bom) ++ c.before)) (length (text s))
    (length (text_of (bom_leaves s.bom) ++ c.before) + length c.old) (length (text s)) c.new new long end h.new
  where
    same : (a b c d : ℕ) (x y : List ℕ) → a ≡ b → c ≡ d → x ≡ y
        → (let p : Place = record { start = a; end = c; new = x } in
        let q : Place = record { start = b; end = d; new = y } in p ≡ q)
    same a b c d x y e f g = let h = e in cc

-- ---- what is written

one_line : (newline : Written) (c : Content)
    → ended_text (map (new_line newline) (c ∷ [])) ≡ content_text c ++ newline.text
one_line newline c = simp (text_of-append, append_assoc, append-nil) refl

two_lines : (newline : Written) (c : Content)
    → ended_text (map (new_line newline) (blank ∷ c ∷ [])) ≡ newline.text ++ (content_text c ++ newline.text)
two_lines newline c =
    text_of-append (newline ∷ []) (flat_map ended_leaves (map (new_line newline) (c ∷ [])))
    ∙ ap (λ (t : List ℕ). (newline.text ++ []) ++ t) (one_line newline c)
    ∙ ap (λ (t : List ℕ). t ++ (content_text c ++ newline.text)) (append-nil newline.text)

pub all_end : (profile : Profile) (e : Ended) (es : List Ended) → AllByRecursion (IsEnded profile) (e ∷ es)
    → (0 < length (ended_text (e ∷ es))) × (ends_in_newline (ended_text (e ∷ es)) ≡ true)
all_end profile e [] h =
    let one = ended_ends profile e h.0 in
    let whole : ended_text (e ∷ []) ≡ text_of (ended_leaves e) = ap text_of (append-nil (ended_leaves e)) in
    (omega (arith, ap (λ (t : List ℕ). length t) whole, one.0), ap ends_in_newline whole ∙ one.1)
all_end profile e (f ∷ es) h =
    let more = all_end profile f es h.1 in
    let whole : ended_text (e ∷ f ∷ es) ≡ text_of (ended_leaves e) ++ ended_text (f ∷ es) =
    text_of-append (ended_leaves e) (flat_map ended_leaves (f ∷ es)) in (
      omega (
        arith,
        ap (λ (t : List ℕ). length t) whole,
        length-append (text_of (ended_leaves e)) (ended_text (f ∷ es)),
        more.0,
      ),
      ap ends_in_newline whole ∙ ends_after (text_of (ended_leaves e)) (ended_text (f ∷ es)) more.0 ∙ more.1,
    )

header_by : (t newline new : List ℕ) (x y : Bool) → is_bare_start t ≡ x → ends_in_newline t ≡ y
    → header_at_end t newline new ≡ cond x (new
    ++ newline) (cond y (newline ++ (new ++ newline)) (newline ++ (newline ++ (new ++ newline))))
header_by t newline new true y e f =
    ap (λ (b : Bool). cond b [] (cond (ends_in_newline t) newline (newline ++ newline)) ++ (new ++ newline)) e
header_by t newline new false true e f =
    ap (λ (b : Bool). cond b [] (cond (ends_in_newline t) newline (newline ++ newline)) ++ (new ++ newline)) e
    ∙ ap (λ (b : Bool). cond b newline (newline ++ newline) ++ (new ++ newline)) f
header_by t newline new false false e f =
    ap (λ (b : Bool). cond b [] (cond (ends_in_newline t) newline (newline ++ newline)) ++ (new ++ newline)) e
    ∙ ap (λ (b : Bool). cond b newline (newline ++ newline) ++ (new ++ newline)) f
    ∙ append_assoc newline newline (new ++ newline)

-- ---- the place

abbrev at_end : Document → List ℕ → Place
at_end s new = record { start = length (text s); end = length (text s); new = new }

module _ (profile : Profile) (s : Document) (valid : IsDocument profile s) where
  -- put in before the last line, which has no bytes, or after it
  place_before : (cs : List Content) → line_text s.last ≡ []
      → place_of (changed_or_same s (at_line s (length s.ended) cs))
      ≡ at_end s (ended_text (map (new_line (newline_of s)) cs))
  place_before cs none =
      let new : List Ended = map (new_line (newline_of s)) cs in
      let cut = before_last new (newline_of s) s.ended s.last in
      end_place s (ended_text new) (put_lines (length s.ended) new (newline_of s) s.ended s.last)
      (record { start = omega (arith, cut.start, ap (λ (t : List ℕ). length t) none); old = cut.old; new = cut.new })

  place_after : (cs : List Content)
      → place_of (changed_or_same s (at_line s (suc (length s.ended)) cs))
      ≡ at_end s ((newline_of s).text ++ ended_text (map (new_line (newline_of s)) cs))
  place_after cs =
      let new : List Ended = map (new_line (newline_of s)) cs in
      end_place s ((newline_of s).text ++ ended_text new)
      (put_lines (suc (length s.ended)) new (newline_of s) s.ended s.last)
      (after_last new (newline_of s) s.ended s.last)

  not_bare : 0 < length (ended_text s.ended ++ line_text s.last) → is_bare_start (text s) ≡ false
  not_bare some =
      ap is_bare_start (text_is s)
      ∙ some_text s.bom (ended_text s.ended ++ line_text s.last) some
      (page_low profile s.ended s.last valid.ended valid.last)

  ends_as : (t : List ℕ) → ended_text s.ended ++ line_text s.last ≡ t → 0 < length t
      → ends_in_newline (text s) ≡ ends_in_newline t
  ends_as t is some =
      ap ends_in_newline (text_is s) ∙ ap (λ (x : List ℕ). ends_in_newline (text_of (bom_leaves s.bom) ++ x)) is
      ∙ ends_after (text_of (bom_leaves s.bom)) t some

  -- the last line has no bytes, and no line comes before it
  pub none_written : s.ended ≡ [] → is_empty s.last ≡ true → is_bare_start (text s) ≡ true
  none_written none empty =
      let nothing : ended_text s.ended ++ line_text s.last ≡ [] =
      ap (λ (es : List Ended). ended_text es ++ line_text s.last) none ∙ empty_text s.last empty in
      ap is_bare_start (text_is s) ∙ ap (λ (t : List ℕ). is_bare_start (text_of (bom_leaves s.bom) ++ t)) nothing
      ∙ no_text s.bom

  -- the last line has bytes
  pub last_written : is_empty s.last ≡ false → (is_bare_start (text s) ≡ false) × (ends_in_newline (text s) ≡ false)
  last_written some =
      let long : 0 < length (line_text s.last) = line_some profile s.last valid.last some in
      let all : 0 < length (ended_text s.ended ++ line_text s.last) =
      omega (arith, long, length-append (ended_text s.ended) (line_text s.last)) in (
        not_bare all,
        ends_as (ended_text s.ended ++ line_text s.last) refl all
            ∙ ends_after (ended_text s.ended) (line_text s.last) long ∙ line_quiet profile s.last valid.last,
      )

  -- the last line has none, and lines with newlines come before it
  pub lines_written : (e : Ended) (es : List Ended) → s.ended ≡ e ∷ es → is_empty s.last ≡ true
      → (is_bare_start (text s) ≡ false) × (ends_in_newline (text s) ≡ true)
  lines_written e es are empty =
      let end = all_end profile e es (subst (λ (x : List Ended). AllByRecursion (IsEnded profile) x) are valid.ended) in
      let whole : ended_text s.ended ++ line_text s.last ≡ ended_text (e ∷ es) =
      ap (λ (x : List Ended). ended_text x ++ line_text s.last) are
      ∙ ap (λ (t : List ℕ). ended_text (e ∷ es) ++ t) (empty_text s.last empty) ∙ append-nil (ended_text (e ∷ es)) in (
        not_bare (omega (arith, end.0, ap (λ (t : List ℕ). length t) whole)),
        ends_as (ended_text (e ∷ es)) whole end.0
            ∙ end.1,
      )

  pub append_place : (c : Content)
      → place_of (changed_or_same s (append s c))
      ≡ record {
        start = length (text s);
        end = length (text s);
        new = header_at_end (text s) (newline_of s).text (content_text c);
      }
  append_place c = by s.ended refl (is_empty s.last) refl
    where
      by : (es : List Ended) → s.ended ≡ es → (b : Bool) → is_empty s.last ≡ b → place_of (changed_or_same s (elim es [
        | [] ↦ cond b (at_line s 0 (c ∷ [])) (at_line s 1 (blank ∷ c ∷ []))
        | e ∷ es ↦
            cond b (at_line s (length s.ended) (blank ∷ c ∷ [])) (at_line s (suc (length s.ended)) (blank ∷ c ∷ []))
      ])) ≡ at_end s (header_at_end (text s) (newline_of s).text (content_text c))
      by [] are true empty =
          ap (λ (n : ℕ). place_of (changed_or_same s (at_line s n (c ∷ []))))
          (sym (ap (λ (x : List Ended). length x) are))
          ∙ place_before (c ∷ []) (empty_text s.last empty)
          ∙ ap (at_end s) (one_line (newline_of s) c
          ∙ sym (header_by (text s) (newline_of s).text (content_text c) true (ends_in_newline (text s))
          (none_written are empty) refl))
      by [] are false some =
          let h = last_written some in
          ap (λ (n : ℕ). place_of (changed_or_same s (at_line s (suc n) (blank ∷ c ∷ []))))
          (sym (ap (λ (x : List Ended). length x) are))
          ∙ place_after (blank ∷ c ∷ [])
          ∙ ap (at_end s) (ap (λ (t : List ℕ). (newline_of s).text ++ t) (two_lines (newline_of s) c)
          ∙ sym (header_by (text s) (newline_of s).text (content_text c) false false h.0 h.1))
      by (e ∷ es) are true empty =
          let h = lines_written e es are empty in
          place_before (blank ∷ c ∷ []) (empty_text s.last empty)
          ∙ ap (at_end s) (two_lines (newline_of s) c
          ∙ sym (header_by (text s) (newline_of s).text (content_text c) false true h.0 h.1))
      by (e ∷ es) are false some =
          let h = last_written some in
          place_after (blank ∷ c ∷ [])
          ∙ ap (at_end s) (ap (λ (t : List ℕ). (newline_of s).text ++ t) (two_lines (newline_of s) c)
          ∙ sym (header_by (text s) (newline_of s).text (content_text c) false false h.0 h.1))
