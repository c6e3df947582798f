-- What an act does beyond a path where there is a value is what is done at that value: in a document.
--
-- The value is that of one keyval: two keyvals whose paths begin one another would both be alone at a path, against the
-- rules (`two_keyvals`). So an act that goes on from the path finds this line, and in all lines before and after it
-- nothing. `Gives` of the line's value, which `Gives` shows for entries, is carried to its line and to the lines, by
-- induction over the lines.
--
-- Theorem: `gives_nested`.
use Rattle.std.proofs.Common.{◌≡◌, ℕ, true, List, [], ◌∷◌, ◌++◌, map, refl, sym, ap, subst, ◌∙◌, append_assoc, Option}
use Rattle.std.proofs.Common.{Some, None, inl, inr}
use Rattle.std.specs.List.{AllByRecursion}
use Rattle.keep_types.specs.declared.leaf.Profile.{Profile}
use Rattle.keep_syntax.specs.Tree.{Name, name_leaves, opening, closing, comment_leaves, Body, Entries, Value, Content}
use Rattle.keep_syntax.specs.Tree.{blank, keyval, header, element, Line, Ended, Document, ended_leaves, bom_leaves}
use Rattle.keep_syntax.specs.Tree.{text_of}
use Rattle.keep_syntax.specs.Grammar.{IsValue, IsContent, IsLine, IsEnded, IsDocument}
use Rattle.keep_meaning.specs.Fact.{Fact, is_value_fact}
use Rattle.keep_path.specs.Path.{Part}
use Rattle.keep_meaning.specs.Marks.{Mention, below, Reading, start}
use Rattle.keep_meaning.specs.Meaning.{body_fact, entries_mentions, step, keyval_mentions, line_mentions, after_line}
use Rattle.keep_meaning.specs.Meaning.{lines_mentions, reading_after_lines, line_of, mentions_in, mentions_of_value}
use Rattle.keep_meaning.specs.Nodes.{fact_at}
use Rattle.keep_edit_spec.specs.Look.{strip}
use Rattle.keep_edit_spec.specs.Changed.{Changed, within, or_else}
use Rattle.keep_edit_spec.specs.Values.{Act, in_entries, in_value}
use Rattle.keep_edit_spec.specs.Lines.{Page, page_text, in_content, in_line, in_lines, with_page}
use Rattle.keep_edit_spec.specs.Edits.{nested}
use Rattle.keep_edit_spec.proofs.Common.Runs.{AllOf, SomeOf, some_left, some_right, Rules, IsDisjoint, strip-sound}
use Rattle.keep_edit_spec.proofs.Common.Runs.{strip-append, none_or_some}
use Rattle.keep_edit_spec.proofs.Common.SetLaw.{IsAloneAt}
use Rattle.keep_edit_spec.proofs.Common.SetDocument.{mentions_of, reading_of, keyval_alone, whole_mentions}
use Rattle.keep_edit_spec.proofs.Common.LineLaws.{within_first, beyond, prefix_cases, lines_mentions-append}
use Rattle.keep_edit_spec.proofs.Append.AppendLaw.{reading_append}
use Rattle.keep_edit_spec.proofs.Common.InValue.{beside_keyval}
use Rattle.keep_edit_spec.proofs.Common.ValueThere.{IsSome, some_cases}
use Rattle.keep_edit_spec.proofs.Common.DoneAtValue.{EachOf, IsAtEnd}
use Rattle.keep_edit_spec.proofs.Common.DoneInDocument.{IsDoneInLines, done_lines, keyval_facts}
use Rattle.keep_edit_spec.proofs.Insert.Gives.{Gives, gives_within, gives_either, never_named, never_alone}
use Rattle.keep_edit_spec.proofs.Insert.Gives.{named_beyond, entry_named, IsNamedAt, Holds, gives_value}

-- ---- two keyvals

abbrev pub keyval_path : List Line → Name → List Part
keyval_path pre name = (reading_after_lines start pre).body ++ step 0 (Some name)

-- neither's path is a prefix of the other's
pub record AreDisjoint (p q : List Part) : Type 0 where
  pub one : strip p q ≡ None
  pub other : strip q p ≡ None

never_prefix : (p q : List Part) (ms : List Mention) → AllOf (IsDisjoint p) ms → SomeOf (IsAloneAt q) ms
    → strip p q ≡ None
never_prefix p q ms h s =
    elim (none_or_some (strip p q)) [
      | inl e ↦ e
      | inr r ↦ absurd (never_alone p q r.0 ms h s (strip-sound p q r.0 r.1))
    ]

alone_line : (r : Reading) (pre : List Line) (l : Line) (post : List Line) (name : Name) (v : Value)
    → l.content ≡ keyval name v
    → SomeOf (IsAloneAt ((reading_after_lines r pre).body ++ step 0 (Some name))) (lines_mentions r (pre ++ l ∷ post))
alone_line r pre l post name v e =
    let r' : Reading = reading_after_lines r pre in
    let p : List Part = r'.body ++ step 0 (Some name) in
    subst (SomeOf (IsAloneAt p)) (sym (lines_mentions-append r pre (l ∷ post)))
    (some_right (IsAloneAt p) (lines_mentions r pre) (line_mentions r' l ++ lines_mentions (after_line r' l) post)
    (some_left (IsAloneAt p) (line_mentions r' l) (lines_mentions (after_line r' l) post)
    (subst (SomeOf (IsAloneAt p)) (sym (mentions_of r' l name v e)) (keyval_alone r'.body name v))))

pub two_keyvals : (pre mid post : List Line) (l l2 : Line) (name name2 : Name) (v v2 : Value)
    → l.content ≡ keyval name v → l2.content ≡ keyval name2 v2
    → Rules (lines_mentions start (pre ++ l ∷ (mid ++ l2 ∷ post)))
    → AreDisjoint (keyval_path pre name) (keyval_path (pre ++ l ∷ mid) name2)
two_keyvals pre mid post l l2 name name2 v v2 e e2 rules =
    let r : Reading = reading_after_lines start pre in
    let p : List Part = keyval_path pre name in
    let p2 : List Part = keyval_path (pre ++ l ∷ mid) name2 in
    let first =
    beside_keyval pre (mid ++ l2 ∷ post) name v
    (subst Rules (whole_mentions pre (mid ++ l2 ∷ post) l name v e) rules) in
    let joined : pre ++ l ∷ (mid ++ l2 ∷ post) ≡ (pre ++ l ∷ mid) ++ l2 ∷ post =
    sym (append_assoc pre (l ∷ mid) (l2 ∷ post)) in
    let rules2 : Rules (lines_mentions start ((pre ++ l ∷ mid) ++ l2 ∷ post)) =
    subst (λ (ls : List Line). Rules (lines_mentions start ls)) joined rules in
    let second =
    beside_keyval (pre ++ l ∷ mid) post name2 v2
    (subst Rules (whole_mentions (pre ++ l ∷ mid) post l2 name2 v2 e2) rules2) in
    let same : reading_after_lines start (pre ++ l ∷ mid) ≡ reading_after_lines r mid =
    reading_append start pre (l ∷ mid) ∙ ap (λ (x : Reading). reading_after_lines x mid) (reading_of r l name v e) in
    record {
      one = never_prefix p p2 (lines_mentions r (mid ++ l2 ∷ post)) first.after
          (subst (λ (x : Reading).
          SomeOf (IsAloneAt (x.body ++ step 0 (Some name2))) (lines_mentions r (mid ++ l2 ∷ post))) (sym same)
          (alone_line r mid l2 post name2 v2 e2));
      other = never_prefix p2 p (lines_mentions start (pre ++ l ∷ mid)) second.before
          (alone_line start pre l mid name v e);
    }

-- ---- in lines

get_some : {A : Type 0} (P : Changed A → Type 0) (o : Option (Changed A)) → IsSome o → EachOf P o
    → (c : Changed A) × P c
get_some P None s h = absurd s
get_some P (Some c) s h = (c, h)

module _ (profile : Profile) (ended act : Act) (ends : IsAtEnd ended) (rest : List Part) (F : List Part → Option Fact)
    (dots : List Part) (f : Fact) (there : F [] ≡ Some f) (valued : is_value_fact f ≡ true)
    (same : (body : Body) (nested : Entries) → IsValue profile (record { body = body; nested = nested })
    → Rules (entries_mentions 0 nested) → Holds F dots [] (mentions_of_value (record { body = body; nested = nested }))
    → Gives (ended [] (record { body = body; nested = nested }))
    (or_else (within (λ es. record { body = body; nested = es }) (text_of (opening body)) (text_of (closing body))
    (in_entries act rest 0 nested)) (act rest (record { body = body; nested = nested }))))
    (path : List Part) where
  -- what is said at and beyond the path is said in the value of the keyval that it goes through
  holds_keyval : (pre post : List Line) (l : Line) (name : Name) (v : Value) (more : List Part)
      → l.content ≡ keyval name v → path ≡ keyval_path pre name ++ more
      → Rules (lines_mentions start (pre ++ l ∷ post)) → Holds F dots path (lines_mentions start (pre ++ l ∷ post))
      → Holds F dots more (mentions_of_value v)
  holds_keyval pre post l name v more e whole rules h =
      let ms : List Mention = lines_mentions start (pre ++ l ∷ post) in
      let r : Reading = reading_after_lines start pre in
      let p : List Part = keyval_path pre name in
      let k = keyval_facts pre post l name v e rules in
      let mentioned : ms ≡ lines_mentions start pre
      ++ (map (below r.body) (keyval_mentions name v) ++ lines_mentions r post) = whole_mentions pre post l name v e in
      let b = beside_keyval pre post name v (subst Rules mentioned rules) in
      let x : List Part = more ++ dots in
      let at : path ++ dots ≡ p ++ x = ap (λ (q : List Part). q ++ dots) whole ∙ append_assoc p more dots in
      let named : SomeOf (IsNamedAt (p ++ x))
      (lines_mentions start pre ++ (map (below r.body) (keyval_mentions name v) ++ lines_mentions r post)) =
      subst (λ (l : List Mention). SomeOf (IsNamedAt (p ++ x)) l) mentioned
      (subst (λ (q : List Part). SomeOf (IsNamedAt q) ms) at h.named) in
      record {
        facts = λ q. sym (k.facts (more ++ q))
            ∙ ap (λ (y : List Part). fact_at y ms)
            (sym (append_assoc p more q) ∙ ap (λ (y : List Part). y ++ q) (sym whole)) ∙ h.facts q;
        named = elim (some_cases (IsNamedAt (p ++ x)) (lines_mentions start pre)
            (map (below r.body) (keyval_mentions name v) ++ lines_mentions r post) named) [
              | inl s ↦ absurd (never_named p x (lines_mentions start pre) b.before s)
              | inr t ↦
                  (elim (some_cases (IsNamedAt (p ++ x)) (map (below r.body) (keyval_mentions name v))
                  (lines_mentions r post) t) [
                    | inl s ↦ entry_named 0 (Some name) (body_fact v.body) (entries_mentions 0 v.nested) x
                        (named_beyond r.body (step 0 (Some name) ++ x) (keyval_mentions name v)
                        (subst (λ (q : List Part). SomeOf (IsNamedAt q) (map (below r.body) (keyval_mentions name v)))
                        (append_assoc r.body (step 0 (Some name)) x) s))
                    | inr s ↦ absurd (never_named p x (lines_mentions r post) b.after s)
                  ])
            ];
      }

  content_by : (pre post : List Line) (l : Line) (name : Name) (v : Value) → l.content ≡ keyval name v
      → IsValue profile v
      → Rules (lines_mentions start (pre ++ l ∷ post)) → Holds F dots path (lines_mentions start (pre ++ l ∷ post))
      → (o : Option (List Part)) → strip (keyval_path pre name) path ≡ o → (o' : Option (List Part))
      → strip (keyval_path pre name) (path ++ rest) ≡ o'
      → Gives {A =
      Content} (elim o [
        | None ↦ None
        | Some more ↦
            within (keyval name) (text_of (name_leaves name)) [] (in_value ended more v)
      ])
      (elim o' [ None ↦ None | Some more ↦ within (keyval name) (text_of (name_leaves name)) [] (in_value act more v) ])
  content_by pre post l name v e valid rules h None k o' k' = tt
  content_by pre post l name v e valid rules h (Some more) k o' k' =
      let p : List Part = keyval_path pre name in
      let whole : path ≡ p ++ more = strip-sound p path more k in
      let longer : o' ≡ Some (more ++ rest) =
      sym k' ∙ ap (λ (x : List Part). strip p (x ++ rest)) whole ∙ ap (strip p) (append_assoc p more rest)
      ∙ strip-append p (more ++ rest) in
      rw longer (gives_within (keyval name) (text_of (name_leaves name)) [] (in_value ended more v)
      (in_value act (more ++ rest) v)
      (gives_value profile ended act ends rest F dots f there valued same more v.body v.nested valid
      (keyval_facts pre post l name v e rules).rules (holds_keyval pre post l name v more e whole rules h)))

  gives_content : (pre post : List Line) (l : Line) (c : Content) → l.content ≡ c → IsContent profile c
      → Rules (lines_mentions start (pre ++ l ∷ post)) → Holds F dots path (lines_mentions start (pre ++ l ∷ post))
      → Gives (in_content ended (reading_after_lines start pre).body path c)
      (in_content act (reading_after_lines start pre).body (path ++ rest) c)
  gives_content pre post l blank e valid rules h = tt
  gives_content pre post l (header b k a) e valid rules h = tt
  gives_content pre post l (element b k a) e valid rules h = tt
  gives_content pre post l (keyval name v) e valid rules h =
      content_by pre post l name v e valid.1 rules h (strip (keyval_path pre name) path) refl
      (strip (keyval_path pre name) (path ++ rest)) refl

  gives_line : (pre post : List Line) (l : Line) → IsLine profile l → Rules (lines_mentions start (pre ++ l ∷ post))
      → Holds F dots path (lines_mentions start (pre ++ l ∷ post))
      → Gives (in_line ended path (reading_after_lines start pre) l)
      (in_line act (path ++ rest) (reading_after_lines start pre) l)
  gives_line pre post l valid rules h =
      gives_within (λ c. record l { content = c }) (text_of l.before)
      (text_of l.after ++ text_of (comment_leaves l.comment))
      (in_content ended (reading_after_lines start pre).body path l.content)
      (in_content act (reading_after_lines start pre).body (path ++ rest) l.content)
      (gives_content pre post l l.content refl valid.content rules h)

  -- a line before the one of the value
  none_content : (pre : List Line) (l : Line) (es : List Ended) (last : Line) (c : Content) → l.content ≡ c
      → Rules (lines_mentions start (pre ++ l ∷ (map line_of es ++ last ∷ [])))
      → IsSome (in_lines (in_line ended path) (after_line (reading_after_lines start pre) l) es last)
      → in_content act (reading_after_lines start pre).body (path ++ rest) c ≡ None
  none_content pre l es last blank e rules s = refl
  none_content pre l es last (header b k a) e rules s = refl
  none_content pre l es last (element b k a) e rules s = refl
  none_content pre l es last (keyval name v) e rules s =
      let r : Reading = reading_after_lines start pre in
      let p : List Part = keyval_path pre name in
      let r' : Reading = after_line r l in
      let (c, d) =
      get_some (IsDoneInLines ended r' path (record { ended = es; last = last }))
      (in_lines (in_line ended path) r' es last) s (done_lines ended ends path r' es last) in
      let q : List Part = keyval_path (pre ++ l ∷ d.pre) d.name in
      let disjoint : AreDisjoint p q =
      two_keyvals pre d.pre d.post l d.line name d.name v d.value e d.content
      (subst (λ (ls : List Line). Rules (lines_mentions start (pre ++ l ∷ ls))) d.was rules) in
      let same_reading : reading_after_lines r' d.pre ≡ reading_after_lines start (pre ++ l ∷ d.pre) =
      sym (reading_append start pre (l ∷ d.pre)) in
      let whole : path ++ rest ≡ q ++ (d.more ++ rest) =
      ap (λ (x : List Part). x ++ rest) d.place
      ∙ append_assoc ((reading_after_lines r' d.pre).body ++ step 0 (Some d.name)) d.more rest
      ∙ ap (λ (x : Reading). (x.body ++ step 0 (Some d.name)) ++ (d.more ++ rest)) same_reading in
      let none : strip p (path ++ rest) ≡ None = elim (none_or_some (strip p (path ++ rest))) [
        | inl k ↦ k
        | inr k ↦ (elim (prefix_cases p q (d.more ++ rest) k.0 (ap (strip p) (sym whole) ∙ k.1)) [
          | within_first u ↦ (let z : None ≡ Some u.0 = sym disjoint.one ∙ u.1 in absurd cc)
          | beyond b bs w u ↦
              (let z : None ≡ Some (b ∷ bs) = sym disjoint.other ∙ ap (strip q) w ∙ strip-append q (b ∷ bs) in
              absurd cc)
        ])
      ] in
      rw (in_content, none) refl

  none_line : (pre : List Line) (l : Line) (es : List Ended) (last : Line)
      → Rules (lines_mentions start (pre ++ l ∷ (map line_of es ++ last ∷ [])))
      → IsSome (in_lines (in_line ended path) (after_line (reading_after_lines start pre) l) es last)
      → in_line act (path ++ rest) (reading_after_lines start pre) l ≡ None
  none_line pre l es last rules s =
      ap (within (λ c. record l { content = c }) (text_of l.before)
      (text_of l.after ++ text_of (comment_leaves l.comment))) (none_content pre l es last l.content refl rules s)

  within_some : {A B : Type 0} (outer : A → B) (left right : List ℕ) (o : Option (Changed A))
      → IsSome (within outer left right o) → IsSome o
  within_some outer left right None s = s
  within_some outer left right (Some c) s = tt

  gives_lines : (pre : List Line) (es : List Ended) (last : Line) (r : Reading) → r ≡ reading_after_lines start pre
      → AllByRecursion (IsEnded profile) es → IsLine profile last
      → Rules (lines_mentions start (pre ++ (map line_of es ++ last ∷ [])))
      → Holds F dots path (lines_mentions start (pre ++ (map line_of es ++ last ∷ [])))
      → Gives (in_lines (in_line ended path) r es last) (in_lines (in_line act (path ++ rest)) r es last)
  gives_lines pre [] last r e he hl rules h =
      gives_within (λ l. record { ended = []; last = l }) [] [] (in_line ended path r last)
      (in_line act (path ++ rest) r last)
      (subst (λ (x : Reading). Gives (in_line ended path x last) (in_line act (path ++ rest) x last)) (sym e)
      (gives_line pre [] last hl rules h))
  gives_lines pre (x ∷ es) last r e he hl rules h =
      let post : List Line = map line_of es ++ last ∷ [] in
      let here : Line → Page = λ l. record { ended = record { line = l; newline = x.newline } ∷ es; last = last } in
      let there_lines : Page → Page = λ b. record { ended = x ∷ b.ended; last = b.last } in
      let right : List ℕ = x.newline.text ++ page_text (record { ended = es; last = last }) in
      let left : List ℕ = text_of (ended_leaves x) in
      let joined : pre ++ x.line ∷ post ≡ (pre ++ x.line ∷ []) ++ post = sym (append_assoc pre (x.line ∷ []) post) in
      let next : after_line r x.line ≡ reading_after_lines start (pre ++ x.line ∷ []) =
      ap (λ (y : Reading). after_line y x.line) e ∙ sym (reading_append start pre (x.line ∷ [])) in
      gives_either (within here [] right (in_line ended path r x.line))
      (within here [] right (in_line act (path ++ rest) r x.line))
      (within there_lines left [] (in_lines (in_line ended path) (after_line r x.line) es last))
      (within there_lines left [] (in_lines (in_line act (path ++ rest)) (after_line r x.line) es last))
      (gives_within here [] right (in_line ended path r x.line) (in_line act (path ++ rest) r x.line)
      (subst (λ (y : Reading). Gives (in_line ended path y x.line) (in_line act (path ++ rest) y x.line)) (sym e)
      (gives_line pre post x.line he.0.line rules h)))
      (gives_within there_lines left [] (in_lines (in_line ended path) (after_line r x.line) es last)
      (in_lines (in_line act (path ++ rest)) (after_line r x.line) es last)
      (gives_lines (pre ++ x.line ∷ []) es last (after_line r x.line) next he.1 hl
      (subst (λ (ls : List Line). Rules (lines_mentions start ls)) joined rules)
      (subst (λ (ls : List Line). Holds F dots path (lines_mentions start ls)) joined h)))
      (λ none some.
      let s : IsSome (in_lines (in_line ended path) (after_line (reading_after_lines start pre) x.line) es last) =
      subst (λ (y : Reading). IsSome (in_lines (in_line ended path) (after_line y x.line) es last)) e
      (within_some there_lines left [] (in_lines (in_line ended path) (after_line r x.line) es last) some) in
      ap (within here [] right) (subst (λ (y : Reading). in_line act (path ++ rest) y x.line ≡ None) (sym e)
      (none_line pre x.line es last rules s)))

  -- in the document
  pub gives_nested : (s : Document) → IsDocument profile s → Rules (mentions_in s) → Holds F dots path (mentions_in s)
      → Gives (nested ended path s) (nested act (path ++ rest) s)
  gives_nested s valid rules h =
      gives_within (with_page s) (text_of (bom_leaves s.bom)) [] (in_lines (in_line ended path) start s.ended s.last)
      (in_lines (in_line act (path ++ rest)) start s.ended s.last)
      (gives_lines [] s.ended s.last start refl valid.ended valid.last rules h)
