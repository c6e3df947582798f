-- How lines end: no line of a valid document ends in a line feed, and each newline does. So the last byte of a line
-- that is read with its newline, if it has one, tells whether it has one.
--
-- A value ends in a bracket, in a mark of a string or in a byte of a word; a comment, a key part and white space have
-- no line feed. Theorems: `line_quiet`, `line_some`, `ended_ends`.
use Rattle.std.proofs.Common.{◌≡◌, ℕ, suc, ◌+◌, ◌-◌, ◌<◌, Bool, true, false, ◌&&◌, ◌==◌, List, [], ◌∷◌, ◌++◌, length}
use Rattle.std.proofs.Common.{get_or, take, drop, Some, None, refl, sym, ap, ◌∙◌, subst, inl, inr, arith, add-zero}
use Rattle.std.proofs.Common.{get_or-drop, length-append, Option}
use Rattle.std.specs.Prelude.{IsTrue}
use Rattle.std.specs.List.{prefix_len, list_all}
use Rattle.std.specs.Char.{is_ascii_digit}
use Rattle.std.proofs.lemmas.Bool.{and_parts}
use Rattle.std.proofs.lemmas.Bool.Decides.{nat_tests}
use Rattle.std.proofs.lemmas.List.{append-nil}
use Rattle.std.proofs.lemmas.List.Sums.{prefix_len_passes}
use Rattle.keep_types.specs.declared.leaf.Profile.{Profile}
use Rattle.keep_types.specs.declared.leaf.Profile.TheVariants.{Strict}
use Rattle.keep_types.specs.declared.leaf.Leaf.{Leaf}
use Rattle.keep_types.specs.declared.leaf.Leaf.TheVariants as leaf
use Rattle.keep_token.specs.Abnf.{is_ws, is_comment, is_word}
use Rattle.keep_token.specs.Leaves.{IsLeaf, is_scalar_leaf, word_len, has_date_shape}
use Rattle.keep_token.specs.Pieces.{first}
use Rattle.keep_token.specs.Strings as strings
use Rattle.keep_token.proofs.Shared.{tested, prefix_len-positive, word_len_again, word_first, scalar_kind, a_word}
use Rattle.keep_token.proofs.Shared.{a_basic, a_literal, a_ml_basic, a_ml_literal}
use Rattle.keep_syntax.specs.Tree.{Written, Gap, Body, scalar, array, inline, Entries, none, entry, Value, Content}
use Rattle.keep_syntax.specs.Tree.{blank, keyval, header, element, Line, Ended, token, key_leaves, name_leaves}
use Rattle.keep_syntax.specs.Tree.{entries_leaves, value_leaves, content_leaves, comment_leaves, line_leaves}
use Rattle.keep_syntax.specs.Tree.{ended_leaves, text_of, value_text}
use Rattle.keep_syntax.specs.Grammar.{IsSpace, IsValue, IsBody, AreEntries, in_scalar, place_in, IsContent, IsAfter}
use Rattle.keep_syntax.specs.Grammar.{IsComment, IsLine, IsEnded}
use Rattle.keep_edit_spec.specs.Lines.{line_text, content_text, is_empty, is_empty_list}
use Rattle.keep_edit_spec.specs.TextEnds.{ends_in_newline}
use Rattle.keep_edit_spec.proofs.Common.Texts.{text_of-append}

-- ---- the end of a text

-- its last byte
pub ends_at : (t : List ℕ) → 0 < length t → ends_in_newline t ≡ (get_or t (length t - 1) 0 == 0x0A)
ends_at [] some = absurd (omega arith)
ends_at (c ∷ []) some = refl
ends_at (c ∷ d ∷ cs) some =
    let n : length (c ∷ d ∷ cs) - 1 ≡ suc (length (d ∷ cs) - 1) = omega arith in
    ends_at (d ∷ cs) (omega arith) ∙ sym (ap (λ k. get_or (c ∷ d ∷ cs) k 0 == 0x0A) n)

-- what comes before it does not matter
pub ends_after : (a b : List ℕ) → 0 < length b → ends_in_newline (a ++ b) ≡ ends_in_newline b
ends_after [] b some = refl
ends_after (x ∷ []) [] some = absurd (omega arith)
ends_after (x ∷ []) (c ∷ b) some = refl
ends_after (x ∷ y ∷ a) b some = ends_after (y ∷ a) b some

pub quiet_append : (a b : List ℕ) → ends_in_newline a ≡ false → ends_in_newline b ≡ false
    → ends_in_newline (a ++ b) ≡ false
quiet_append a [] h g = ap ends_in_newline (append-nil a) ∙ h
quiet_append a (c ∷ b) h g = ends_after a (c ∷ b) (omega arith) ∙ g

-- bytes of a class without the line feed
pub quiet_byte : (p : ℕ → Bool) (c : ℕ) → p 0x0A ≡ false → p c ≡ true → (c == 0x0A) ≡ false
quiet_byte p c never h = by (c == 0x0A) refl
  where
    by : (b : Bool) → (c == 0x0A) ≡ b → (c == 0x0A) ≡ false
    by false e = e
    by true e =
        let same : c ≡ 0x0A = grind (arith, nat_tests) in let k : true ≡ false = sym h ∙ ap p same ∙ never in absurd cc

quiet_run : (p : ℕ → Bool) (t : List ℕ) → p 0x0A ≡ false → list_all p t ≡ true → ends_in_newline t ≡ false
quiet_run p [] never h = refl
quiet_run p (c ∷ []) never h = quiet_byte p c never (and_parts (p c) true h).0
quiet_run p (c ∷ d ∷ cs) never h = quiet_run p (d ∷ cs) never (and_parts (p c) (list_all p (d ∷ cs)) h).1

-- leaves: the last that has bytes decides
pub leaves_quiet : (a b : List Written) → ends_in_newline (text_of a) ≡ false → ends_in_newline (text_of b) ≡ false
    → ends_in_newline (text_of (a ++ b)) ≡ false
leaves_quiet a b h g = ap ends_in_newline (text_of-append a b) ∙ quiet_append (text_of a) (text_of b) h g

-- a text that has bytes, and does not end in a line feed
pub record IsClosed (t : List ℕ) : Type 0 where
  pub some : 0 < length t
  pub quiet : ends_in_newline t ≡ false

closed_after : (a b : List ℕ) → IsClosed b → IsClosed (a ++ b)
closed_after a b h = record { some = omega (arith, length-append a b, h.some); quiet = ends_after a b h.some ∙ h.quiet }

leaves_closed : (a b : List Written) → IsClosed (text_of b) → IsClosed (text_of (a ++ b))
leaves_closed a b h = subst IsClosed (sym (text_of-append a b)) (closed_after (text_of a) (text_of b) h)

-- ---- scalars

-- The last byte of a word is one of its class, also where a space is in it.
run_last : (t : List ℕ) → 0 < length t → prefix_len is_word t ≡ length t → is_word (get_or t (length t - 1) 0) ≡ true
run_last t some e = prefix_len_passes is_word t (length t - 1) 0 (omega (arith, e))

digit_word : (c : ℕ) → is_ascii_digit c ≡ true → is_word c ≡ true
digit_word c h = grind (arith, nat_tests)

two_runs_last : (t : List ℕ) (run : ℕ) → is_ascii_digit (get_or t (run + 1) 0) ≡ true
    → run + 1 + prefix_len is_word (drop (run + 1) t) ≡ length t → is_word (get_or t (length t - 1) 0) ≡ true
two_runs_last t run digit e =
    let more : ℕ = prefix_len is_word (drop (run + 1) t) in
    let begins : is_word (first (drop (run + 1) t)) ≡ true =
    rw (get_or-drop (run + 1) t 0 0, add-zero) (digit_word (get_or t (run + 1) 0) digit) in
    let positive : 0 < more = prefix_len-positive is_word (drop (run + 1) t) refl begins in
    let pass : is_word (get_or (drop (run + 1) t) (more - 1) 0) ≡ true =
    prefix_len_passes is_word (drop (run + 1) t) (more - 1) 0 (omega arith) in
    let there : is_word (get_or t (run + 1 + (more - 1)) 0) ≡ true =
    rw (get_or-drop (run + 1) t (more - 1) 0) at pass in
    let same : run + 1 + (more - 1) ≡ length t - 1 = omega (arith, e) in
    subst (λ (n : ℕ). is_word (get_or t n 0) ≡ true) same there

pub word_last : (t : List ℕ) → 0 < length t → word_len t ≡ length t → is_word (get_or t (length t - 1) 0) ≡ true
word_last t some e =
    let run : ℕ = prefix_len is_word t in
    elim (tested (has_date_shape (take run t) && (get_or t run 0 == 0x20 && is_ascii_digit (get_or t (run + 1) 0)))) [
      | inl k ↦
          two_runs_last t run (and_parts (get_or t run 0 == 0x20) (is_ascii_digit (get_or t (run + 1) 0))
          (and_parts (has_date_shape (take run t)) _ k).1).1 (rw k at e)
      | inr k ↦ run_last t some (rw k at e)
    ]

word_closed : (t : List ℕ) → 0 < length t → word_len t ≡ length t → IsClosed t
word_closed t some e =
    record {
      some = some;
      quiet = ends_at t some
          ∙ quiet_byte is_word (get_or t (length t - 1) 0) refl (word_last t some e);
    }

-- a string ends in its mark
mark_closed : (prefix : List ℕ) (c : ℕ) → (c == 0x0A) ≡ false → IsClosed (prefix ++ (c ∷ []))
mark_closed prefix c h = closed_after prefix (c ∷ []) (record { some = omega arith; quiet = h })

marks_closed : (prefix : List ℕ) (c : ℕ) → (c == 0x0A) ≡ false → IsClosed (prefix ++ (c ∷ c ∷ c ∷ []))
marks_closed prefix c h = closed_after prefix (c ∷ c ∷ c ∷ []) (record { some = omega arith; quiet = h })

scalar_closed : (profile : Profile) (l : Leaf) (t : List ℕ) → IsTrue (is_scalar_leaf l) → IsLeaf profile l t
    → IsClosed t
scalar_closed profile l t kind h =
    elim (scalar_kind l kind) [
      | a_word e ↦
          word_closed t (word_first profile l t h e).0
          (ap word_len (sym (append-nil t)) ∙ word_len_again profile l t [] e h refl)
      | a_basic e ↦ let b =
          rw e at h in subst IsClosed (sym b.1.spelled) (mark_closed (0x22 ∷ strings.text_of b.0) 0x22 refl)
      | a_literal e ↦ let b =
          rw e at h in subst IsClosed (sym b.1.spelled) (mark_closed (0x27 ∷ strings.text_of b.0) 0x27 refl)
      | a_ml_basic e ↦ let b =
          rw e at h in
          subst IsClosed (sym b.1.spelled) (marks_closed (0x22 ∷ 0x22 ∷ 0x22 ∷ strings.text_of b.0) 0x22 refl)
      | a_ml_literal e ↦ let b =
          rw e at h in
          subst IsClosed (sym b.1.spelled) (marks_closed (0x27 ∷ 0x27 ∷ 0x27 ∷ strings.text_of b.0) 0x27 refl)
    ]

-- ---- values

nothing_nested : (profile : Profile) (nested : Entries) → AreEntries profile in_scalar nested
    → entries_leaves nested ≡ []
nothing_nested profile none h = refl
nothing_nested profile (entry None body nested after comma rest) h = absurd h.0
nothing_nested profile (entry (Some n) body nested after comma rest) h = absurd h.0

pub value_closed : (profile : Profile) (v : Value) → IsValue profile v → IsClosed (value_text v)
value_closed profile v h = by v.body v.nested h.body h.nested
  where
    by : (b : Body) (nested : Entries) → IsBody profile b → AreEntries profile (place_in b) nested
        → IsClosed (value_text (record { body = b; nested = nested }))
    by (scalar w) nested is in_it =
        let spelled : w.text ≡ value_text (record { body = scalar w; nested = nested }) =
        sym (append-nil w.text)
        ∙ ap (λ (ws : List Written). w.text ++ text_of (ws ++ [])) (sym (nothing_nested profile nested in_it)) in
        subst IsClosed spelled (scalar_closed profile w.leaf w.text is.0 is.1)
    by (array gap) nested is in_it =
        leaves_closed (token leaf.ArrayOpen (0x5B ∷ []) ++ gap)
        (entries_leaves nested ++ token leaf.ArrayClose (0x5D ∷ []))
        (leaves_closed (entries_leaves nested) (token leaf.ArrayClose (0x5D ∷ []))
        (record { some = omega arith; quiet = refl }))
    by (inline gap) nested is in_it =
        leaves_closed (token leaf.InlineOpen (0x7B ∷ []) ++ gap)
        (entries_leaves nested ++ token leaf.InlineClose (0x7D ∷ []))
        (leaves_closed (entries_leaves nested) (token leaf.InlineClose (0x7D ∷ []))
        (record { some = omega arith; quiet = refl }))

-- ---- lines

space_quiet : (g : Gap) → IsSpace g → ends_in_newline (text_of g) ≡ false
space_quiet [] h = refl
space_quiet (w ∷ []) h = ap ends_in_newline (append-nil w.text) ∙ quiet_run is_ws w.text refl h.1.1
space_quiet (w ∷ v ∷ g) h = absurd h

after_quiet : (c : Content) (g : Gap) → IsAfter c g → ends_in_newline (text_of g) ≡ false
after_quiet blank g h = ap (λ (x : Gap). ends_in_newline (text_of x)) h
after_quiet (keyval n v) g h = space_quiet g h
after_quiet (header b k a) g h = space_quiet g h
after_quiet (element b k a) g h = space_quiet g h

comment_closed : (t : List ℕ) → IsLeaf Strict leaf.Comment t → IsClosed t
comment_closed t (a, b, spelled, hash, all) =
    let whole : t ≡ 0x23 ∷ b = spelled ∙ ap (λ (x : List ℕ). x ++ b) hash in
    subst IsClosed (sym whole) (record {
      some = omega arith;
      quiet = quiet_run is_comment (0x23 ∷ b) refl (rw all refl);
    })

comment_quiet : (c : Option Written) → IsComment c → ends_in_newline (text_of (comment_leaves c)) ≡ false
comment_quiet None h = refl
comment_quiet (Some w) h = ap ends_in_newline (append-nil w.text) ∙ (comment_closed w.text h.1).quiet

header_closed : (opens before key after closes : List Written) → IsClosed (text_of closes)
    → IsClosed (text_of (opens ++ (before ++ (key ++ (after ++ closes)))))
header_closed opens before key after closes h =
    leaves_closed opens (before ++ (key ++ (after ++ closes)))
    (leaves_closed before (key ++ (after ++ closes))
    (leaves_closed key (after ++ closes) (leaves_closed after closes h)))

-- a content that is not blank
content_closed : (profile : Profile) (c : Content) → IsContent profile c → (c ≡ blank → ⊥) → IsClosed (content_text c)
content_closed profile blank h some = absurd (some refl)
content_closed profile (keyval n v) h some = leaves_closed (name_leaves n) (value_leaves v) (value_closed profile v h.1)
content_closed profile (header b k a) h some =
    header_closed (token leaf.HeadOpen (0x5B ∷ [])) b (key_leaves k) a (token leaf.HeadClose (0x5D ∷ []))
    (record { some = omega arith; quiet = refl })
content_closed profile (element b k a) h some =
    header_closed (token leaf.ElemOpen (0x5B ∷ 0x5B ∷ [])) b (key_leaves k) a (token leaf.ElemClose (0x5D ∷ 0x5D ∷ []))
    (record { some = omega arith; quiet = refl })

content_quiet : (profile : Profile) (c : Content) → IsContent profile c → ends_in_newline (content_text c) ≡ false
content_quiet profile blank h = refl
content_quiet profile (keyval n v) h = (content_closed profile (keyval n v) h (λ e. absurd cc)).quiet
content_quiet profile (header b k a) h = (content_closed profile (header b k a) h (λ e. absurd cc)).quiet
content_quiet profile (element b k a) h = (content_closed profile (element b k a) h (λ e. absurd cc)).quiet

-- A line without its newline does not end in a line feed.
pub line_quiet : (profile : Profile) (l : Line) → IsLine profile l → ends_in_newline (line_text l) ≡ false
line_quiet profile l h =
    leaves_quiet l.before _ (space_quiet l.before h.before)
    (leaves_quiet (content_leaves l.content) _ (content_quiet profile l.content h.content)
    (leaves_quiet l.after (comment_leaves l.comment) (after_quiet l.content l.after h.after)
    (comment_quiet l.comment h.comment)))

-- A line with its newline does.
pub newline_ends : (t : List ℕ) → IsLeaf Strict leaf.Newline t → (0 < length t) × (ends_in_newline t ≡ true)
newline_ends t (inl e) = (omega (arith, ap (λ (x : List ℕ). length x) e), ap ends_in_newline e)
newline_ends t (inr e) = (omega (arith, ap (λ (x : List ℕ). length x) e), ap ends_in_newline e)

pub ended_ends : (profile : Profile) (e : Ended) → IsEnded profile e
    → (0 < length (text_of (ended_leaves e))) × (ends_in_newline (text_of (ended_leaves e)) ≡ true)
ended_ends profile e h =
    let last = newline_ends e.newline.text h.newline in
    let whole : text_of (ended_leaves e) ≡ line_text e.line ++ e.newline.text =
    text_of-append (line_leaves e.line) (e.newline ∷ [])
    ∙ ap (λ (t : List ℕ). line_text e.line ++ t) (append-nil e.newline.text) in (
      omega (arith, ap (λ (t : List ℕ). length t) whole, length-append (line_text e.line) e.newline.text, last.0),
      ap ends_in_newline whole ∙ ends_after (line_text e.line) e.newline.text last.0 ∙ last.1,
    )

-- A line that has leaves has bytes.
more_some : (a b : List Written) → 0 < length (text_of b) → 0 < length (text_of (a ++ b))
more_some a b h =
    omega (arith, h, ap (λ (t : List ℕ). length t) (text_of-append a b), length-append (text_of a) (text_of b))

prefix_some : (a b : List Written) → 0 < length (text_of a) → 0 < length (text_of (a ++ b))
prefix_some a b h =
    omega (arith, h, ap (λ (t : List ℕ). length t) (text_of-append a b), length-append (text_of a) (text_of b))

space_some : (w : Written) (g : Gap) → IsSpace (w ∷ g) → 0 < length (text_of (w ∷ g))
space_some w [] h = omega (arith, h.1.0, length-append w.text [])
space_some w (v ∷ g) h = absurd h

pub line_some : (profile : Profile) (l : Line) → IsLine profile l → is_empty l ≡ false → 0 < length (line_text l)
line_some profile l h some = by l.before l.content l.after l.comment h.before h.content h.after h.comment some
  where
    by : (before : Gap) (c : Content) (after : Gap) (comment : Option Written) → IsSpace before → IsContent profile c
        → IsAfter c after → IsComment comment
        → is_empty (record { before = before; content = c; after = after; comment = comment }) ≡ false
        → 0 < length (line_text (record { before = before; content = c; after = after; comment = comment }))
    by (w ∷ g) c after comment hb hc ha hm e = prefix_some (w ∷ g) _ (space_some w g hb)
    by [] (keyval n v) after comment hb hc ha hm e =
        prefix_some (content_leaves (keyval n v)) _ (content_closed profile (keyval n v) hc (λ k. absurd cc)).some
    by [] (header b k a) after comment hb hc ha hm e =
        prefix_some (content_leaves (header b k a)) _ (content_closed profile (header b k a) hc (λ k. absurd cc)).some
    by [] (element b k a) after comment hb hc ha hm e =
        prefix_some (content_leaves (element b k a)) _ (content_closed profile (element b k a) hc (λ k. absurd cc)).some
    by [] blank after None hb hc ha hm e =
        let k : is_empty_list (after ++ []) ≡ true = ap (λ (g : Gap). is_empty_list (g ++ [])) ha in absurd cc
    by [] blank after (Some w) hb hc ha hm e =
        more_some after (w ∷ []) (omega (arith, (comment_closed w.text hm.1).some, length-append w.text []))
