-- Reading a document stops at the bracket that is too deep, so there is at most one.
--
-- The bracket is one of the document's leaves (`reaches_at`), and it is looked for line by line (`look`). A byte order
-- mark, white space, a key, a header and what follows a content open no bracket (`past`, `not_plain`). So the line that
-- has it is a keyval, and its value has it: the reading of this value stops there (`value_stops`), and with it that of
-- the content and of the line (`content_stops`, `line_stops`). A line before it opens no more than the limit, so it is
-- read, and the loop continues after it (`line_passes`, `lines_stop`). Reading a text gives one result, so from two
-- such brackets on the same is left of the text, and they are at one place (`deep_is`, `place_is`).
--
-- Theorems: `too_deep_document`: a document is read up to the bracket; `one_document_place`: there is at most one such
-- bracket.
use Rattle.std.proofs.Common.{◌≡◌, ℕ, ◌≤◌, Bool, true, false, List, [], ◌∷◌, ◌++◌, drop, Ok, Err, refl, sym, ap, ◌∙◌}
use Rattle.std.proofs.Common.{subst, inl, inr, append_assoc, ◌⊎◌}
use Rattle.std.specs.List.{flat_map, AllByRecursion}
use Rattle.keep_types.specs.declared.leaf.Profile.{Profile}
use Rattle.keep_types.specs.declared.leaf.Leaf.TheVariants as leaf
use Rattle.keep_token.specs.Scanning.{first}
use Rattle.keep_token.proofs.Shared.{tested}
use Rattle.keep_syntax.specs.Tree.{Written, Content, blank, keyval, header, element, Line, Ended, text_of, name_leaves}
use Rattle.keep_syntax.specs.Tree.{value_leaves, content_leaves, comment_leaves, line_leaves, ended_leaves, bom_leaves}
use Rattle.keep_syntax.specs.Tree.{leaves, content_depth}
use Rattle.keep_syntax.specs.Grammar.{IsContent, IsLine, IsEnded}
use Rattle.keep_syntax.specs.Deep.{is_opening, IsTooDeep}
use Rattle.keep_syntax.specs.Reading.{Deep, ◌>>=◌, continues, space_at, name_of, content_at, line_at, after_line}
use Rattle.keep_syntax.specs.Reading.{ended_at, lines_of, has_bom, read_document}
use Rattle.keep_syntax.proofs.LoopLaws.{loop_on, loop_err}
use Rattle.keep_syntax.proofs.SpaceLaws.{solid_no_ws, space_again}
use Rattle.keep_syntax.proofs.KeyLaws.{is_key_first, key_first_solid, name_again, name_begins}
use Rattle.keep_syntax.proofs.ValueLaws.{value_first_solid}
use Rattle.keep_syntax.proofs.LineLaws.{at_newline, key_first_facts, line_again}
use Rattle.keep_syntax.proofs.DocumentLaws.{lines_leaves, ended_text, lines_shorten, after_again, bom_text, bom_is}
use Rattle.keep_syntax.proofs.DocumentLaws.{bom_no_lines}
use Rattle.keep_syntax.proofs.DeepLaws.{space_opens, name_opens}
use Rattle.keep_syntax.proofs.DeepLineLaws.{content_opens, line_ends_open, ended_opens, bom_opens}
use Rattle.keep_syntax.proofs.TooDeepLaws.{Reaches, not_none, not_plain, inside, beyond, look, past, before_last}
use Rattle.keep_syntax.proofs.TooDeepLaws.{value_stops, reaches_at, place_is, deep_is}

-- ---- a line

record StopsContent (profile : Profile) (depth_left : ℕ) (text rest : List ℕ) : Type 0 where
  stops : content_at profile depth_left text ≡ Err (Deep rest)
  begins : is_key_first (first text) ≡ true

content_stops : (profile : Profile) (depth_left : ℕ) (c : Content) → IsContent profile c
    → (outer : ℕ) (text rest : List ℕ) → Reaches outer depth_left text rest (content_leaves c)
    → StopsContent profile depth_left text rest
unfolding content_at
content_stops profile depth_left blank h outer text rest r = absurd (not_none r)
content_stops profile depth_left (keyval n v) h outer text rest r =
    let p = past (name_leaves n) (value_leaves v) (name_opens profile n h.0) r in
    let t = p.more in
    let s = value_stops profile depth_left v h.1 outer t rest p.reaches in
    let begins = name_begins profile n t h.0 in
    let f = key_first_facts (first (text_of (name_leaves n) ++ t)) begins in
    let one : name_of profile (text_of (name_leaves n) ++ t) ≡ Ok (n, t) =
    name_again profile n t h.0 (solid_no_ws (first t) (value_first_solid (first t) s.begins)) in
    subst (λ (x : List ℕ). StopsContent profile depth_left x rest) (sym p.spelled)
    (record { stops = rw (f.0, f.1, one, s.stops) refl; begins = begins })
content_stops profile depth_left (header before k after) h outer text rest r =
    absurd (not_plain (content_leaves (header before k after)) (content_opens profile (header before k after) h) r)
content_stops profile depth_left (element before k after) h outer text rest r =
    absurd (not_plain (content_leaves (element before k after)) (content_opens profile (element before k after) h) r)

line_stops : (profile : Profile) (depth_left : ℕ) (l : Line) → IsLine profile l → (outer : ℕ) (text rest : List ℕ)
    → Reaches outer depth_left text rest (line_leaves l) → line_at profile depth_left text ≡ Err (Deep rest)
unfolding line_at
line_stops profile depth_left l h outer text rest r =
    let ends = l.after ++ comment_leaves l.comment in
    let p = past l.before (content_leaves l.content ++ ends) (space_opens l.before h.before) r in
    elim (look (content_depth l.content) (content_leaves l.content) ends (content_opens profile l.content h.content)
    p.reaches) [
      | beyond t e le k ↦ absurd (not_plain ends (line_ends_open profile l h) k)
      | inside k ↦
          let s = content_stops profile depth_left l.content h.content outer p.more rest k in
          let one : space_at text ≡ (l.before, p.more) =
          ap space_at p.spelled
          ∙ space_again l.before p.more h.before
          (solid_no_ws (first p.more) (key_first_solid (first p.more) s.begins)) in
          rw (one, s.stops) refl
    ]

-- ---- lines

iteration_stops : (profile : Profile) (depth_left : ℕ) (prefix : List Ended) (text rest : List ℕ)
    → line_at profile depth_left text ≡ Err (Deep rest) → lines_of profile depth_left prefix text ≡ Err (Deep rest)
unfolding ended_at
iteration_stops profile depth_left prefix text rest e =
    let one : ended_at profile depth_left prefix text ≡ Err (Deep rest) = rw e refl in
    loop_err (ended_at profile depth_left) prefix text (Deep rest) one

-- a line that is read
line_passes : (profile : Profile) (depth_left : ℕ) (prefix : List Ended) (e : Ended) (t : List ℕ) → IsEnded profile e
    → content_depth e.line.content ≤ depth_left
    → lines_of profile depth_left prefix (text_of (ended_leaves e) ++ t)
    ≡ lines_of profile depth_left (prefix ++ (e ∷ [])) t
unfolding ended_at
line_passes profile depth_left prefix e t h le =
    let read : line_at profile depth_left (text_of (line_leaves e.line) ++ (e.newline.text ++ t))
    ≡ Ok (e.line, e.newline.text ++ t) =
    line_again profile depth_left e.line (e.newline.text ++ t) h.line le (at_newline e.newline.text t h.newline refl) in
    let iteration : ended_at profile depth_left prefix (text_of (ended_leaves e) ++ t)
    ≡ Ok (continues (prefix ++ (e ∷ [])), t) =
    ap (λ (x : List ℕ). line_at profile depth_left x >>= λ l. after_line prefix l.0 l.1) (ended_text e t)
    ∙ rw read (after_again prefix e.line e.newline t h.kind h.newline) in
    loop_on (ended_at profile depth_left) (lines_shorten profile depth_left) prefix (text_of (ended_leaves e) ++ t)
    (prefix ++ (e ∷ [])) t iteration

lines_stop : (profile : Profile) (depth_left : ℕ) (ended : List Ended) (last : Line)
    → AllByRecursion (IsEnded profile) ended → IsLine profile last
    → (prefix : List Ended) (outer : ℕ) (text rest : List ℕ)
    → Reaches outer depth_left text rest (lines_leaves ended last)
    → lines_of profile depth_left prefix text ≡ Err (Deep rest)
lines_stop profile depth_left [] last h k prefix outer text rest r =
    iteration_stops profile depth_left prefix text rest (line_stops profile depth_left last k outer text rest r)
lines_stop profile depth_left (e ∷ es) last h k prefix outer text rest r =
    let whole : Reaches outer depth_left text rest (ended_leaves e ++ lines_leaves es last) =
    subst (λ (ws : List Written). Reaches outer depth_left text rest ws)
    (append_assoc (ended_leaves e) (flat_map ended_leaves es) (line_leaves last)) r in
    elim (look (content_depth e.line.content) (ended_leaves e) (lines_leaves es last) (ended_opens profile e h.0)
    whole) [
      | inside i ↦
          iteration_stops profile depth_left prefix text rest
          (line_stops profile depth_left e.line h.0.line outer text rest
          (before_last (line_leaves e.line) e.newline (ap is_opening h.0.kind) i))
      | beyond t spelled le i ↦ ap (lines_of profile depth_left prefix) spelled
          ∙ line_passes profile depth_left prefix e t h.0 le
          ∙ lines_stop profile depth_left es last h.1 k (prefix ++ (e ∷ [])) outer t rest i
    ]

-- ---- documents

-- A document that is too deep is read up to the bracket.
pub too_deep_document : (profile : Profile) (limit : ℕ) (bytes : List ℕ) (at : ℕ) → IsTooDeep profile limit bytes at
    → read_document profile limit bytes ≡ Err (Deep (drop at bytes))
unfolding read_document
too_deep_document profile limit bytes at h =
    let d = h.document in
    let rest = drop at bytes in
    let end : Written = record { leaf = leaf.End; text = [] } in
    let p = past (bom_leaves d.bom) (flat_map ended_leaves d.ended ++ (line_leaves d.last ++ (end ∷ [])))
    (bom_opens d.bom) (reaches_at limit bytes at (leaves d) h.deep) in
    let lines : Reaches 0 limit p.more rest (lines_leaves d.ended d.last ++ (end ∷ [])) =
    subst (λ (ws : List Written). Reaches 0 limit p.more rest ws)
    (sym (append_assoc (flat_map ended_leaves d.ended) (line_leaves d.last) (end ∷ []))) p.reaches in
    let stops =
    lines_stop profile limit d.ended d.last h.valid.ended h.valid.last [] 0 p.more rest
    (before_last (lines_leaves d.ended d.last) end refl lines) in
    ap (read_document profile limit) p.spelled ∙ by d.bom p.more stops
  where
    no_bom : (t : List ℕ) → lines_of profile limit [] t ≡ Err (Deep (drop at bytes)) → has_bom t ≡ false
    no_bom t k = by (tested (has_bom t))
      where
        by : (has_bom t ≡ true) ⊎ (has_bom t ≡ false) → has_bom t ≡ false
        by (inr e) = e
        by (inl e) = absurd (let clash = sym (bom_no_lines profile limit t (ap first (bom_is t e))) ∙ k in cc)

    by : (b : Bool) (t : List ℕ) → lines_of profile limit [] t ≡ Err (Deep (drop at bytes))
        → read_document profile limit (bom_text b ++ t) ≡ Err (Deep (drop at bytes))
    by true t k = rw k refl
    by false t k = rw (no_bom t k, k) refl

-- There is at most one such bracket.
pub one_document_place : (profile : Profile) (limit : ℕ) (bytes : List ℕ) (at at' : ℕ)
    → IsTooDeep profile limit bytes at → IsTooDeep profile limit bytes at' → at ≡ at'
one_document_place profile limit bytes at at' h g =
    place_is limit bytes at at' (leaves h.document) (leaves g.document) h.deep g.deep
    (deep_is (drop at bytes) (drop at' bytes)
    (sym (too_deep_document profile limit bytes at h) ∙ too_deep_document profile limit bytes at' g))
