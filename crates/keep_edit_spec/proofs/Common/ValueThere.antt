-- Where a value is at a path, what can be done at a value is done there.
--
-- An act changes nothing where the search for its value fails, so here the search is shown to succeed. From the outside
-- inwards: a value at the path is mentioned by one line (`some_lines`), as a keyval (`some_content`), in one entry of
-- its value (`some_entries`, by induction), and there it is the entry's own value or one inside it (`some_value`). In
-- each step the mention is in the one part or in the rest (`some_cases`). The hard case is an entry whose key leads to
-- the path while the mention is in a later entry: the rules exclude it (`disjoint_alone`). A value's fact is the only
-- one at its path (`alone_of_fact`).
--
-- Theorem: `some_nested`: where the document has a value at a path, what can be done at a value is done.
use Rattle.std.proofs.Common.{◌≡◌, ℕ, ◌+◌, Bool, true, false, cond, List, [], ◌∷◌, ◌++◌, map, refl, sym, ap, subst, ◌∙◌}
use Rattle.std.proofs.Common.{append_assoc, Option, Some, None, ◌⊎◌, inl, inr}
use Rattle.std.specs.Prelude.{⊤}
use Rattle.std.specs.List.{filter_map, cons_option}
use Rattle.std.proofs.lemmas.List.{append-nil}
use Rattle.keep_syntax.specs.Tree.{Written, Gap, Name, name_leaves, named_leaves, opening, closing, comma_leaves}
use Rattle.keep_syntax.specs.Tree.{comment_leaves, Body, Entries, none, entry, Value, Content, blank, keyval, header}
use Rattle.keep_syntax.specs.Tree.{element, Line, Ended, Document, ended_leaves, bom_leaves, text_of}
use Rattle.keep_meaning.specs.Fact.{Fact, table, is_value_fact}
use Rattle.keep_path.specs.Path.{Part, key, index}
use Rattle.keep_meaning.specs.Marks.{MentionKind, through, past, define, dotted, value, begun, passed, item, Mention}
use Rattle.keep_meaning.specs.Marks.{below, fact_of, Reading, start, entered_path, passing_mentions, header_prefixes}
use Rattle.keep_meaning.specs.Meaning.{keys_of, body_fact, valued_mentions, keyed_mentions, entry_mentions}
use Rattle.keep_meaning.specs.Meaning.{entries_mentions, step, keyval_mentions, line_mentions, after_line}
use Rattle.keep_meaning.specs.Meaning.{lines_mentions, line_of, mentions_in}
use Rattle.keep_meaning.specs.Nodes.{is_at, kinds_at, fact_at, first_of}
use Rattle.keep_edit_spec.specs.Look.{strip}
use Rattle.keep_edit_spec.specs.Changed.{Changed, within, or_else}
use Rattle.keep_edit_spec.specs.Values.{Act, entry_prefix, entry_back, in_entries, in_value}
use Rattle.keep_edit_spec.specs.Lines.{Page, page_text, in_content, in_line, in_lines, with_page}
use Rattle.keep_edit_spec.specs.Edits.{nested}
use Rattle.keep_edit_spec.specs.Refusals.{has_value}
use Rattle.keep_edit_spec.proofs.Common.Runs.{AllOf, SomeOf, pairs_split, all_join, meet, Allowed, Rules, exclusive}
use Rattle.keep_edit_spec.proofs.Common.Runs.{IsDisjoint, same_path-sound, strip-sound, strip-append}
use Rattle.keep_edit_spec.proofs.Common.SetLaw.{IsAloneAt, keyed_split, rules_below, rules_named, disjoint_from_entry}
use Rattle.keep_edit_spec.proofs.Common.SetLaw.{tag_of}
use Rattle.keep_edit_spec.proofs.Common.SetDocument.{cancel}

-- ---- some change

abbrev pub IsSome : {A : Type 0} → Option A → Type 0
IsSome None = ⊥
IsSome (Some c) = ⊤

pub some_within : {A B : Type 0} (outer : A → B) (left right : List ℕ) (o : Option (Changed A)) → IsSome o
    → IsSome (within outer left right o)
some_within outer left right None h = h
some_within outer left right (Some c) h = tt

pub some_first : {A : Type 0} (o p : Option A) → IsSome o → IsSome (or_else o p)
some_first None p h = absurd h
some_first (Some c) p h = tt

pub some_second : {A : Type 0} (o p : Option A) → IsSome p → IsSome (or_else o p)
some_second None p h = h
some_second (Some c) p h = tt

pub the_some : {A : Type 0} (o : Option A) → IsSome o → (c : A) × (o ≡ Some c)
the_some None h = absurd h
the_some (Some c) h = (c, refl)

-- ---- the fact of a value is the only one at its path

pub fact_head : (path : List Part) (m : Mention) (ms : List Mention) → is_at path m ≡ true
    → fact_at path (m ∷ ms) ≡ first_of (cons_option (fact_of m.kind) (filter_map fact_of (kinds_at path ms)))
fact_head path m ms e = rw e refl

pub fact_past : (path : List Part) (m : Mention) (ms : List Mention) → is_at path m ≡ false
    → fact_at path (m ∷ ms) ≡ fact_at path ms
fact_past path m ms e = rw e refl

stated_alone : (s : MentionKind) (f : Fact) → fact_of s ≡ Some f → is_value_fact f ≡ true → exclusive s ≡ true
stated_alone (value g) f e h = refl
stated_alone (item g) f e h = refl
stated_alone define f e h =
    let t : f ≡ table = cc in let k : is_value_fact table ≡ true = ap is_value_fact (sym t) ∙ h in absurd cc
stated_alone begun f e h =
    let t : f ≡ table = cc in let k : is_value_fact table ≡ true = ap is_value_fact (sym t) ∙ h in absurd cc
stated_alone other f e h = absurd cc

pub alone_of_fact : (path : List Part) (ms : List Mention) (f : Fact) → fact_at path ms ≡ Some f
    → is_value_fact f ≡ true → SomeOf (IsAloneAt path) ms
alone_of_fact path [] f e h = absurd cc
alone_of_fact path (m ∷ ms) f e h = by (is_at path m) refl (fact_of m.kind) refl (λ g. alone_of_fact path ms f g h)
  where
    by : (b : Bool) → is_at path m ≡ b → (o : Option Fact) → fact_of m.kind ≡ o
        → (fact_at path ms ≡ Some f → SomeOf (IsAloneAt path) ms) → SomeOf (IsAloneAt path) (m ∷ ms)
    by false k o u more = inr (more (sym (fact_past path m ms k) ∙ e))
    by true k None u more =
        inr (more (sym (fact_head path m ms k
        ∙ ap (λ (o : Option Fact). first_of (cons_option o (filter_map fact_of (kinds_at path ms)))) u) ∙ e))
    by true k (Some g) u more =
        let same : Some g ≡ Some f =
        sym (fact_head path m ms k
        ∙ ap (λ (o : Option Fact). first_of (cons_option o (filter_map fact_of (kinds_at path ms)))) u) ∙ e in
        inl (record { path = same_path-sound m.path path k; kind = stated_alone m.kind f (u ∙ same) h })

pub some_cases : {A : Type 0} (P : A → Type 0) (xs ys : List A) → SomeOf P (xs ++ ys) → SomeOf P xs ⊎ SomeOf P ys
some_cases P [] ys s = inr s
some_cases P (x ∷ xs) ys (inl p) = inl (inl p)
some_cases P (x ∷ xs) ys (inr s) = elim (some_cases P xs ys s) [ inl a ↦ inl (inr a) | inr b ↦ inr b ]

-- what is said with the name of an entry is not alone at its path
abbrev pub IsNotAlone : Mention → Type 0
IsNotAlone m = exclusive m.kind ≡ false

never_alone : (path : List Part) (ms : List Mention) → AllOf IsNotAlone ms → SomeOf (IsAloneAt path) ms → ⊥
never_alone path (m ∷ ms) h (inl a) =
    let x : exclusive m.kind ≡ true = a.kind in let y : exclusive m.kind ≡ false = h.0 in absurd cc
never_alone path (m ∷ ms) h (inr s) = never_alone path ms h.1 s
never_alone path [] h s = absurd s

not_alone_below : (p : List Part) (ms : List Mention) → AllOf IsNotAlone ms → AllOf IsNotAlone (map (below p) ms)
not_alone_below p [] h = tt
not_alone_below p (m ∷ ms) h = (h.0, not_alone_below p ms h.1)

not_alone_keyed : (ks : List (List ℕ)) → AllOf IsNotAlone (keyed_mentions ks [])
not_alone_keyed [] = tt
not_alone_keyed (k ∷ []) = tt
not_alone_keyed (k ∷ l ∷ ks) =
    not_alone_below (key k ∷ []) (record { path = []; kind = dotted } ∷ keyed_mentions (l ∷ ks) [])
    (refl, not_alone_keyed (l ∷ ks))

-- what is beyond a prefix, seen from there
pub record IsBeyond (p path : List Part) (ms : List Mention) : Type 0 where
  pub more : List Part
  pub is : path ≡ p ++ more
  pub alone : SomeOf (IsAloneAt more) ms

beyond : (p path : List Part) (ms : List Mention) → SomeOf (IsAloneAt path) (map (below p) ms) → IsBeyond p path ms
beyond p path [] s = absurd s
beyond p path (m ∷ ms) (inl a) =
    record { more = m.path; is = sym a.path; alone = inl (record { path = refl; kind = a.kind }) }
beyond p path (m ∷ ms) (inr s) = let h = beyond p path ms s in record { more = h.more; is = h.is; alone = inr h.alone }

pub entry_beyond : (n : ℕ) (name : Option Name) (f : Fact) (nested : List Mention) (path : List Part)
    → SomeOf (IsAloneAt path) (entry_mentions n name f nested)
    → IsBeyond (step n name) path (valued_mentions (tag_of name f) nested)
entry_beyond n None f nested path s = beyond (index n ∷ []) path (valued_mentions (item f) nested) s
entry_beyond n (Some name) f nested path s =
    let ms : List Mention = valued_mentions (value f) nested in
    let both : SomeOf (IsAloneAt path)
    (keyed_mentions (keys_of name.key) [] ++ map (below (map key (keys_of name.key))) ms) =
    subst (λ (l : List Mention). SomeOf (IsAloneAt path) l) (keyed_split (keys_of name.key) ms) s in
    elim (some_cases (IsAloneAt path) (keyed_mentions (keys_of name.key) [])
    (map (below (map key (keys_of name.key))) ms) both) [
      | inl a ↦ absurd (never_alone path (keyed_mentions (keys_of name.key) []) (not_alone_keyed (keys_of name.key)) a)
      | inr b ↦ beyond (map key (keys_of name.key)) path ms b
    ]

-- ---- the change inside a value

-- what can be done at a value
abbrev pub CanBeDone : Act → Type 0
CanBeDone act = (v : Value) → IsSome (act [] v)

some_at : (act : Act) → CanBeDone act
    → (mention_kind : MentionKind) (more : List Part) (body : Body) (nested : Entries) (left right : List ℕ)
    → (SomeOf (IsAloneAt more) (entries_mentions 0 nested) → IsSome (in_entries act more 0 nested))
    → SomeOf (IsAloneAt more) (valued_mentions mention_kind (entries_mentions 0 nested))
    → IsSome (or_else (within (λ es. record { body = body; nested = es }) left right (in_entries act more 0 nested))
    (act more (record { body = body; nested = nested })))
some_at act can mention_kind [] body nested left right deeper s =
    some_second (within (λ es. record { body = body; nested = es }) left right (in_entries act [] 0 nested))
    (act [] (record { body = body; nested = nested })) (can (record { body = body; nested = nested }))
some_at act can mention_kind (q ∷ qs) body nested left right deeper (inl a) = let e : [] ≡ q ∷ qs = a.path in absurd cc
some_at act can mention_kind (q ∷ qs) body nested left right deeper (inr s) =
    some_first (within (λ es. record { body = body; nested = es }) left right (in_entries act (q ∷ qs) 0 nested))
    (act (q ∷ qs) (record { body = body; nested = nested }))
    (some_within (λ es. record { body = body; nested = es }) left right (in_entries act (q ∷ qs) 0 nested) (deeper s))

pub disjoint_alone : (path : List Part) (ms : List Mention) → AllOf (IsDisjoint path) ms → SomeOf (IsAloneAt path) ms
    → ⊥
disjoint_alone path ms h s =
    let (m, a, disjoint) = meet (IsAloneAt path) (IsDisjoint path) ms s h in
    let k : None ≡ Some [] = sym disjoint ∙ ap (strip path) (a.path ∙ sym (append-nil path)) ∙ strip-append path [] in
    absurd cc

some_entries-by : (act : Act) → CanBeDone act
    → (path : List Part) (n : ℕ) (name : Option Name) (body : Body) (nested : Entries) (after : Gap)
    (comma : Option Gap) (rest : Entries)
    → Rules (entries_mentions n (entry name body nested after comma rest))
    → SomeOf (IsAloneAt path) (entries_mentions n (entry name body nested after comma rest))
    → (SomeOf (IsAloneAt path) (entries_mentions (n + 1) rest) → IsSome (in_entries act path (n + 1) rest))
    → ((more : List Part) → SomeOf (IsAloneAt more) (entries_mentions 0 nested) → IsSome (in_entries act more 0 nested))
    → (o : Option (List Part)) → strip (step n name) path ≡ o
    → IsSome (elim o [
      | None ↦
          within (entry name body nested after comma)
          (entry_prefix name body nested ++ (text_of after ++ text_of (comma_leaves comma))) []
          (in_entries act path (n + 1) rest)
      | Some more ↦
          within (λ v. entry name v.body v.nested after comma rest) (text_of (named_leaves name))
          (entry_back after comma rest)
          (or_else (within (λ es. record { body = body; nested = es }) (text_of (opening body)) (text_of (closing body))
          (in_entries act more 0 nested))
          (act more (record { body = body; nested = nested })))
    ])
some_entries-by act can path n name body nested after comma rest rules s further deeper None e =
    let first : List Mention = entry_mentions n name (body_fact body) (entries_mentions 0 nested) in
    some_within (entry name body nested after comma)
    (entry_prefix name body nested ++ (text_of after ++ text_of (comma_leaves comma))) []
    (in_entries act path (n + 1) rest)
    (elim (some_cases (IsAloneAt path) first (entries_mentions (n + 1) rest) s) [
      | inl a ↦
          (let h = entry_beyond n name (body_fact body) (entries_mentions 0 nested) path a in
          let k : None ≡ Some h.more = sym e ∙ ap (strip (step n name)) h.is ∙ strip-append (step n name) h.more in
          absurd cc)
      | inr b ↦ further b
    ])
some_entries-by act can path n name body nested after comma rest rules s further deeper (Some more) e =
    let first : List Mention = entry_mentions n name (body_fact body) (entries_mentions 0 nested) in
    let one : SomeOf (IsAloneAt more) (valued_mentions (tag_of name (body_fact body)) (entries_mentions 0 nested)) =
    elim (some_cases (IsAloneAt path) first (entries_mentions (n + 1) rest) s) [
      | inl a ↦
          (let h = entry_beyond n name (body_fact body) (entries_mentions 0 nested) path a in
          let k : Some more ≡ Some h.more = sym e ∙ ap (strip (step n name)) h.is ∙ strip-append (step n name) h.more in
          let same : h.more ≡ more = cc in
          subst (λ (q : List Part).
          SomeOf (IsAloneAt q) (valued_mentions (tag_of name (body_fact body)) (entries_mentions 0 nested))) same
          h.alone)
      | inr b ↦
          absurd (disjoint_alone path (entries_mentions (n + 1) rest)
          (subst (λ (q : List Part). AllOf (IsDisjoint q) (entries_mentions (n + 1) rest))
          (sym (strip-sound (step n name) path more e))
          (disjoint_from_entry n name (body_fact body) (entries_mentions 0 nested) rest more rules)) b)
    ] in
    some_within (λ v. entry name v.body v.nested after comma rest) (text_of (named_leaves name))
    (entry_back after comma rest) _
    (some_at act can (tag_of name (body_fact body)) more body nested (text_of (opening body)) (text_of (closing body))
    (deeper more) one)

pub some_entries : (act : Act) → CanBeDone act → (path : List Part) (n : ℕ) (es : Entries)
    → Rules (entries_mentions n es) → SomeOf (IsAloneAt path) (entries_mentions n es)
    → IsSome (in_entries act path n es)
some_entries act can path n none rules s = absurd s
some_entries act can path n (entry name body nested after comma rest) rules s =
    let first : List Mention = entry_mentions n name (body_fact body) (entries_mentions 0 nested) in
    let split = pairs_split Allowed first (entries_mentions (n + 1) rest) rules in
    some_entries-by act can path n name body nested after comma rest rules s
    (some_entries act can path (n + 1) rest split.right)
    (λ more.
    some_entries act can more 0 nested (rules_named n name (body_fact body) (entries_mentions 0 nested) split.left))
    (strip (step n name) path) refl

pub some_value : (act : Act) → CanBeDone act → (mention_kind : MentionKind) (more : List Part) (v : Value)
    → Rules (entries_mentions 0 v.nested)
    → SomeOf (IsAloneAt more) (valued_mentions mention_kind (entries_mentions 0 v.nested))
    → IsSome (in_value act more v)
some_value act can mention_kind more v rules s =
    some_at act can mention_kind more v.body v.nested (text_of (opening v.body)) (text_of (closing v.body))
    (some_entries act can more 0 v.nested rules) s

-- ---- in a line

not_alone_passing : (tables : List (List Part)) (q : List Part) (b : Bool) → AllOf IsNotAlone
    (cond b (record { path = q; kind = through } ∷ [])
    (record { path = q; kind = past } ∷ record { path = entered_path tables q; kind = passed } ∷ []))
not_alone_passing tables q true = (refl, tt)
not_alone_passing tables q false = (refl, (refl, tt))

pub not_alone_prefixes : (tables : List (List Part)) (at : List Part) (ks : List (List ℕ))
    → AllOf IsNotAlone (header_prefixes tables at ks)
not_alone_prefixes tables at [] = tt
not_alone_prefixes tables at (k ∷ []) = tt
not_alone_prefixes tables at (k ∷ l ∷ ks) =
    all_join IsNotAlone (passing_mentions tables (at ++ key k ∷ []))
    (header_prefixes tables (entered_path tables (at ++ key k ∷ [])) (l ∷ ks))
    (not_alone_passing tables (at ++ key k ∷ []) _)
    (not_alone_prefixes tables (entered_path tables (at ++ key k ∷ [])) (l ∷ ks))

some_content-by : (act : Act) (body path : List Part) (name : Name) (v : Value) (o : Option (List Part))
    → strip (body ++ step 0 (Some name)) path ≡ o
    → ((more : List Part) → path ≡ (body ++ step 0 (Some name)) ++ more → IsSome (in_value act more v))
    → (more : List Part) → path ≡ (body ++ step 0 (Some name)) ++ more
    → IsSome (elim o [
      | None ↦ None
      | Some more ↦
          within (keyval name) (text_of (name_leaves name)) [] (in_value act more v)
    ])
some_content-by act body path name v None e h more is =
    let k : None ≡ Some more =
    sym e ∙ ap (strip (body ++ step 0 (Some name))) is ∙ strip-append (body ++ step 0 (Some name)) more in absurd cc
some_content-by act body path name v (Some more) e h more' is =
    some_within (keyval name) (text_of (name_leaves name)) [] (in_value act more v)
    (h more (strip-sound (body ++ step 0 (Some name)) path more e))

some_content : (act : Act) → CanBeDone act
    → (r : Reading) (path : List Part) (before after : Gap) (comment : Option Written) (c : Content)
    → (let l : Line = record { before = before; content = c; after = after; comment = comment } in
    Rules (line_mentions r l) → SomeOf (IsAloneAt path) (line_mentions r l) → IsSome (in_content act r.body path c))
some_content act can r path before after comment blank rules s = absurd s
some_content act can r path before after comment (header b k a) rules s =
    absurd (never_alone path _ (all_join IsNotAlone (header_prefixes r.tables [] (keys_of k)) _
    (not_alone_prefixes r.tables [] (keys_of k)) (refl, tt)) s)
some_content act can r path before after comment (element b k a) rules s =
    absurd (never_alone path _ (all_join IsNotAlone (header_prefixes r.tables [] (keys_of k)) _
    (not_alone_prefixes r.tables [] (keys_of k)) (refl, (refl, tt))) s)
some_content act can r path before after comment (keyval name v) rules s =
    let p : List Part = r.body ++ step 0 (Some name) in
    let one = beyond r.body path (keyval_mentions name v) s in
    let two = entry_beyond 0 (Some name) (body_fact v.body) (entries_mentions 0 v.nested) one.more one.alone in
    let whole : path ≡ p ++ two.more =
    one.is ∙ ap (λ q. r.body ++ q) two.is ∙ sym (append_assoc r.body (step 0 (Some name)) two.more) in
    let inner : Rules (entries_mentions 0 v.nested) =
    rules_named 0 (Some name) (body_fact v.body) (entries_mentions 0 v.nested)
    (rules_below r.body (keyval_mentions name v) rules) in
    some_content-by act r.body path name v (strip p path) refl
    (λ more is. some_value act can (value (body_fact v.body)) more v inner
    (subst (λ (q : List Part).
    SomeOf (IsAloneAt q) (valued_mentions (value (body_fact v.body)) (entries_mentions 0 v.nested)))
    (cancel p two.more more (sym whole ∙ is)) two.alone)) two.more whole

some_line : (act : Act) → CanBeDone act → (r : Reading) (path : List Part) (l : Line) → Rules (line_mentions r l)
    → SomeOf (IsAloneAt path) (line_mentions r l) → IsSome (in_line act path r l)
some_line act can r path l rules s =
    some_within (λ c. record l { content = c }) (text_of l.before)
    (text_of l.after ++ text_of (comment_leaves l.comment)) (in_content act r.body path l.content)
    (some_content act can r path l.before l.after l.comment l.content rules s)

some_lines : (act : Act) → CanBeDone act → (path : List Part) (r : Reading) (es : List Ended) (last : Line)
    → Rules (lines_mentions r (map line_of es ++ last ∷ []))
    → SomeOf (IsAloneAt path) (lines_mentions r (map line_of es ++ last ∷ []))
    → IsSome (in_lines (in_line act path) r es last)
some_lines act can path r [] last rules s =
    some_within (λ l. record { ended = []; last = l }) [] [] (in_line act path r last)
    (some_line act can r path last (pairs_split Allowed (line_mentions r last) [] rules).left
    (elim (some_cases (IsAloneAt path) (line_mentions r last) [] s) [ inl a ↦ a | inr b ↦ absurd b ]))
some_lines act can path r (e ∷ es) last rules s =
    let rest : List Mention = lines_mentions (after_line r e.line) (map line_of es ++ last ∷ []) in
    let split = pairs_split Allowed (line_mentions r e.line) rest rules in
    let o : Option (Changed Page) =
    within (λ l. record { ended = record { line = l; newline = e.newline } ∷ es; last = last }) []
    (e.newline.text ++ page_text (record { ended = es; last = last })) (in_line act path r e.line) in
    let p : Option (Changed Page) =
    within (λ b. record { ended = e ∷ b.ended; last = b.last }) (text_of (ended_leaves e)) []
    (in_lines (in_line act path) (after_line r e.line) es last) in
    elim (some_cases (IsAloneAt path) (line_mentions r e.line) rest s) [
      | inl a ↦
          some_first o p (some_within (λ l.
          record { ended = record { line = l; newline = e.newline } ∷ es; last = last }) []
          (e.newline.text ++ page_text (record { ended = es; last = last })) (in_line act path r e.line)
          (some_line act can r path e.line split.left a))
      | inr b ↦
          some_second o p (some_within (λ b. record { ended = e ∷ b.ended; last = b.last }) (text_of (ended_leaves e))
          [] (in_lines (in_line act path) (after_line r e.line) es last)
          (some_lines act can path (after_line r e.line) es last split.right b))
    ]

-- What can be done at a value is done in a document where a value is at the path.
pub some_nested : (act : Act) → CanBeDone act → (path : List Part) (s : Document) → Rules (mentions_in s)
    → SomeOf (IsAloneAt path) (mentions_in s) → IsSome (nested act path s)
some_nested act can path s rules a =
    some_within (with_page s) (text_of (bom_leaves s.bom)) [] (in_lines (in_line act path) start s.ended s.last)
    (some_lines act can path start s.ended s.last rules a)

-- ---- as the refusal asks

pub fact_of_has : (path : List Part) (ms : List Mention) → has_value path ms ≡ true
    → (f : Fact) × (fact_at path ms ≡ Some f) × (is_value_fact f ≡ true)
fact_of_has path ms h = by (fact_at path ms) refl h
  where
    by : (o : Option Fact) → fact_at path ms ≡ o → elim o [ None ↦ false | Some f ↦ is_value_fact f ] ≡ true
        → (f : Fact) × (fact_at path ms ≡ Some f) × (is_value_fact f ≡ true)
    by None e h = absurd cc
    by (Some f) e h = (f, e, h)

pub alone_of_has : (path : List Part) (ms : List Mention) → has_value path ms ≡ true → SomeOf (IsAloneAt path) ms
alone_of_has path ms h = let (f, e, v) = fact_of_has path ms h in alone_of_fact path ms f e v
