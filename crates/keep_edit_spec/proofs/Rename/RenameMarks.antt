-- Renaming one part of a key: which of the key parts it is, where it is written, and which mention it makes.
--
-- `rename_part` goes to the part of a number. By induction over the further parts of a key, the change it makes
-- replaces the text of the key part with that number (`key_at`, `IsPartAt`): what is before it are the parts before,
-- their dots and their white space, whose widths add up to the part's start. The mentions of a keyval or a header are
-- one for each key part in the same order, so the part's mention is the one of that number too (`IsMarkedAt`).
--
-- Theorems: `key_at`, `name_at`, and the lemmas on `IsMarkedAt`.
use Rattle.std.proofs.Common.{◌≡◌, ℕ, zero, suc, ◌+◌, Bool, true, false, cond, List, [], ◌∷◌, ◌++◌, length, map, refl}
use Rattle.std.proofs.Common.{sym, ap, subst, ◌∙◌, append_assoc, length-append, arith}
use Rattle.std.specs.Prelude.{codes, ◌==◌}
use Rattle.keep_types.specs.declared.leaf.Leaf.TheVariants as leaf
use Rattle.keep_types.specs.declared.syntax.KeyPart.{KeyPart}
use Rattle.keep_syntax.specs.Tree.{Written, Further, Key, Name, token, further_leaves, text_of}
use Rattle.keep_syntax.specs.Numbered.{width, part_at, further_parts, key_parts}
use Rattle.keep_path.specs.Path.{Part, key}
use Rattle.keep_meaning.specs.Marks.{MentionKind, through, past, passed, dotted, Mention, below, elements_of}
use Rattle.keep_meaning.specs.Marks.{entered_path, passing_mentions, header_path, header_prefixes}
use Rattle.keep_meaning.specs.Meaning.{valued_mentions, keyed_mentions}
use Rattle.keep_meaning.specs.Counts.{is_mark}
use Rattle.keep_meaning.proofs.Shared.{marked, marked-append}
use Rattle.keep_edit_spec.specs.Changed.{Changed, framed_change}
use Rattle.keep_edit_spec.specs.Values.{rename_further, rename_part, rename_name}
use Rattle.keep_edit_spec.proofs.Common.Texts.{text_of-append}
use Rattle.keep_edit_spec.proofs.Common.SetLaw.{map_twice}
use Rattle.keep_edit_spec.proofs.Common.DoneAtValue.{EachOf, of_within}
use Rattle.keep_edit_spec.proofs.Rename.RenamedParts.{IsPart}

-- ---- the key part that is renamed

-- The change replaces the key part with that number; its text begins at `at`.
pub record IsPartAt {A : Type 0} (at n : ℕ) (new : List ℕ) (parts : List KeyPart) (c : Changed A) : Type 0 where
  pub prefix : List KeyPart
  pub own : KeyPart
  pub after : List KeyPart
  pub here : parts ≡ prefix ++ own ∷ after
  pub count : length prefix ≡ n
  pub start : at + length c.before ≡ own.span.start
  pub end : own.span.end ≡ own.span.start + length c.old
  pub fresh : c.new ≡ new

-- after another key part
part_after : {A B : Type 0} (at from n : ℕ) (new : List ℕ) (first : KeyPart) (parts : List KeyPart) (outer : A → B)
    (left right : List ℕ) (c : Changed A)
    → from + length left ≡ at → IsPartAt at n new parts c
    → IsPartAt from (suc n) new (first ∷ parts) (framed_change outer left right c)
part_after at from n new first parts outer left right c e h = record {
  prefix = first ∷ h.prefix;
  own = h.own;
  after = h.after;
  here = ap (λ l. first ∷ l) h.here;
  count = ap suc h.count;
  start = omega (arith, e, h.start, length-append left c.before);
  end = h.end;
  fresh = h.fresh;
}

part_framed : {A B : Type 0} (at n : ℕ) (new : List ℕ) (parts : List KeyPart) (outer : A → B) (right : List ℕ)
    (c : Changed A)
    → IsPartAt at n new parts c → IsPartAt at n new parts (framed_change outer [] right c)
part_framed at n new parts outer right c h =
    record {
      prefix = h.prefix;
      own = h.own;
      after = h.after;
      here = h.here;
      count = h.count;
      start = h.start;
      end = h.end;
      fresh = h.fresh;
    }

width-append : (a b : List Written) → width (a ++ b) ≡ width a + width b
width-append a b = ap length (text_of-append a b) ∙ length-append (text_of a) (text_of b)

-- a further part of a key, up to the part, and past it
before_part : (f : Further)
    → length (text_of f.before ++ (codes "." ++ text_of f.after)) ≡ width f.before + 1 + width f.after
before_part f =
    omega (
      arith,
      length-append (text_of f.before) (codes "." ++ text_of f.after),
      length-append (codes ".") (text_of f.after),
    )

past_part : (f : Further) → width (further_leaves f) ≡ width f.before + 1 + width f.after + length f.part.text
past_part f =
    omega (
      arith,
      width-append f.before (token leaf.Dot (0x2E ∷ []) ++ (f.after ++ (f.part ∷ []))),
      width-append (token leaf.Dot (0x2E ∷ [])) (f.after ++ (f.part ∷ [])),
      width-append f.after (f.part ∷ []),
      length-append f.part.text [],
    )

further_at : (new : Written) (at n : ℕ) (fs : List Further)
    → EachOf (IsPartAt at n new.text (further_parts at fs)) (rename_further new n fs)
further_at new at n [] = tt
further_at new at zero (f ∷ fs) =
    let from : ℕ = at + width f.before + 1 + width f.after in
    record {
      prefix = [];
      own = part_at from f.part;
      after = further_parts (from + length f.part.text) fs;
      here = refl;
      count = refl;
      start = omega (arith, before_part f);
      end = refl;
      fresh = refl;
    }
further_at new at (suc n) (f ∷ fs) =
    let from : ℕ = at + width f.before + 1 + width f.after in
    let next : ℕ = from + length f.part.text in
    of_within (IsPartAt next n new.text (further_parts next fs))
    (IsPartAt at (suc n) new.text (further_parts at (f ∷ fs))) (λ gs. f ∷ gs) (text_of (further_leaves f)) []
    (rename_further new n fs)
    (λ c h. part_after next at n new.text (part_at from f.part) (further_parts next fs) (λ gs. f ∷ gs)
    (text_of (further_leaves f)) [] c (omega (arith, past_part f)) h)
    (further_at new next n fs)

pub key_at : (new : Written) (at n : ℕ) (k : Key)
    → EachOf (IsPartAt at n new.text (key_parts at k)) (rename_part new n k)
key_at new at zero k = record {
  prefix = [];
  own = part_at at k.first;
  after = further_parts (at + length k.first.text) k.more;
  here = refl;
  count = refl;
  start = omega arith;
  end = refl;
  fresh = refl;
}
key_at new at (suc n) k =
    let next : ℕ = at + length k.first.text in
    of_within (IsPartAt next n new.text (further_parts next k.more)) (IsPartAt at (suc n) new.text (key_parts at k))
    (λ fs. record k { more = fs }) k.first.text [] (rename_further new n k.more)
    (λ c h. part_after next at n new.text (part_at at k.first) (further_parts next k.more)
    (λ fs. record k { more = fs }) k.first.text [] c refl h)
    (further_at new next n k.more)

pub name_at : (new : Written) (at n : ℕ) (name : Name)
    → EachOf (IsPartAt at n new.text (key_parts at name.key)) (rename_name new n name)
name_at new at n name =
    let right : List ℕ = text_of name.before ++ (codes "=" ++ text_of name.after) in
    of_within (IsPartAt at n new.text (key_parts at name.key)) (IsPartAt at n new.text (key_parts at name.key))
    (λ k. record name { key = k }) [] right (rename_part new n name.key)
    (λ c h. part_framed at n new.text (key_parts at name.key) (λ k. record name { key = k }) right c h)
    (key_at new at n name.key)

-- ---- the mention that it makes

-- The key part with that number makes this mention, at the path.
pub record IsMarkedAt (p : List Part) (n : ℕ) (ms : List Mention) : Type 0 where
  pub earlier : List Mention
  pub mention : Mention
  pub later : List Mention
  pub mentioned : ms ≡ earlier ++ mention ∷ later
  pub place : mention.path ≡ p
  pub names : is_mark mention.kind ≡ true
  pub count : marked earlier ≡ n

marked_first : (p : List Part) (m : Mention) (ms : List Mention) → m.path ≡ p → is_mark m.kind ≡ true
    → IsMarkedAt p zero (m ∷ ms)
marked_first p m ms e f =
    record { earlier = []; mention = m; later = ms; mentioned = refl; place = e; names = f; count = refl }

marked_after : (p : List Part) (k n : ℕ) (xs ms : List Mention) → marked xs ≡ k → IsMarkedAt p n ms
    → IsMarkedAt p (k + n) (xs ++ ms)
marked_after p k n xs ms e h = record {
  earlier = xs ++ h.earlier;
  mention = h.mention;
  later = h.later;
  mentioned = ap (λ l. xs ++ l) h.mentioned ∙ sym (append_assoc xs h.earlier (h.mention ∷ h.later));
  place = h.place;
  names = h.names;
  count = omega (arith, marked-append xs h.earlier, e, h.count);
}

pub marked_before : (p : List Part) (n : ℕ) (ms ys : List Mention) → IsMarkedAt p n ms → IsMarkedAt p n (ms ++ ys)
marked_before p n ms ys h = record {
  earlier = h.earlier;
  mention = h.mention;
  later = h.later ++ ys;
  mentioned = ap (λ l. l ++ ys) h.mentioned ∙ append_assoc h.earlier (h.mention ∷ h.later) ys;
  place = h.place;
  names = h.names;
  count = h.count;
}

-- what a header says of a path on its way is stated by one key part, the first
passing_marked : (tables : List (List Part)) (q : List Part) → IsMarkedAt q zero (passing_mentions tables q)
passing_marked tables q = by (entered_path tables q) (0 == elements_of q tables)
  where
    by : (e : List Part) (c : Bool)
        → IsMarkedAt q zero (cond c (record { path = q; kind = through } ∷ [])
        (record { path = q; kind = past } ∷ record { path = e; kind = passed } ∷ []))
    by e true = marked_first q (record { path = q; kind = through }) [] refl refl
    by e false = marked_first q (record { path = q; kind = past }) (record { path = e; kind = passed } ∷ []) refl refl

one_passing : (tables : List (List Part)) (q : List Part) → marked (passing_mentions tables q) ≡ 1
one_passing tables q = by (entered_path tables q) (0 == elements_of q tables)
  where
    by : (e : List Part) (c : Bool)
        → marked (cond c (record { path = q; kind = through } ∷ [])
        (record { path = q; kind = past } ∷ record { path = e; kind = passed } ∷ [])) ≡ 1
    by e true = refl
    by e false = refl

pub header_marked : (p : List Part) (tables : List (List Part)) (at : List Part) (n : ℕ) (keys : List (List ℕ))
    (mention_kind : MentionKind) (more : List Mention) → is_mark mention_kind ≡ true → IsPart p tables at n keys
    → IsMarkedAt p n (header_prefixes tables at keys
    ++ record { path = header_path tables at keys; kind = mention_kind } ∷ more)
header_marked p tables at n [] mention_kind more is h = absurd h
header_marked p tables at zero (k ∷ []) mention_kind more is h =
    marked_first p (record { path = at ++ key k ∷ []; kind = mention_kind }) more h is
header_marked p tables at (suc n) (k ∷ []) mention_kind more is h = absurd h
header_marked p tables at zero (k ∷ l ∷ ks) mention_kind more is h =
    let q : List Part = at ++ key k ∷ [] in
    let prefixes : List Mention = header_prefixes tables (entered_path tables q) (l ∷ ks) in
    let end : List Mention =
    record { path = header_path tables (entered_path tables q) (l ∷ ks); kind = mention_kind } ∷ more in
    marked_before p zero (passing_mentions tables q ++ prefixes) end
    (marked_before p zero (passing_mentions tables q) prefixes
    (subst (λ x. IsMarkedAt x zero (passing_mentions tables q)) h (passing_marked tables q)))
header_marked p tables at (suc n) (k ∷ l ∷ ks) mention_kind more is h =
    let q : List Part = at ++ key k ∷ [] in
    let prefixes : List Mention = header_prefixes tables (entered_path tables q) (l ∷ ks) in
    let end : List Mention =
    record { path = header_path tables (entered_path tables q) (l ∷ ks); kind = mention_kind } ∷ more in
    let number : 1 + n ≡ suc n = omega arith in
    subst (λ m. IsMarkedAt p m ((passing_mentions tables q ++ prefixes) ++ end)) number
    (subst (IsMarkedAt p (1 + n)) (sym (append_assoc (passing_mentions tables q) prefixes end))
    (marked_after p 1 n (passing_mentions tables q) (prefixes ++ end) (one_passing tables q)
    (header_marked p tables (entered_path tables q) n (l ∷ ks) mention_kind more is h)))

pub keyed_marked : (p at : List Part) (n : ℕ) (keys : List (List ℕ)) (mention_kind : MentionKind) (ms : List Mention)
    → is_mark mention_kind ≡ true → IsPart p [] at n keys
    → IsMarkedAt p n (map (below at) (keyed_mentions keys (valued_mentions mention_kind ms)))
keyed_marked p at n [] mention_kind ms is h = absurd h
keyed_marked p at zero (k ∷ []) mention_kind ms is h =
    marked_first p (record { path = at ++ key k ∷ []; kind = mention_kind })
    (map (below at) (map (below (key k ∷ [])) ms)) h is
keyed_marked p at (suc n) (k ∷ []) mention_kind ms is h = absurd h
keyed_marked p at zero (k ∷ l ∷ ks) mention_kind ms is h =
    marked_first p (record { path = at ++ key k ∷ []; kind = dotted })
    (map (below at) (map (below (key k ∷ [])) (keyed_mentions (l ∷ ks) (valued_mentions mention_kind ms)))) h refl
keyed_marked p at (suc n) (k ∷ l ∷ ks) mention_kind ms is h =
    let inner : List Mention = keyed_mentions (l ∷ ks) (valued_mentions mention_kind ms) in
    let first : Mention = record { path = at ++ key k ∷ []; kind = dotted } in
    let number : 1 + n ≡ suc n = omega arith in
    let whole : map (below at) (map (below (key k ∷ [])) inner) ≡ map (below (at ++ key k ∷ [])) inner =
    map_twice at (key k ∷ []) inner in
    subst (λ m. IsMarkedAt p m (first ∷ map (below at) (map (below (key k ∷ [])) inner))) number
    (marked_after p 1 n (first ∷ []) (map (below at) (map (below (key k ∷ [])) inner)) refl
    (subst (IsMarkedAt p n) (sym whole) (keyed_marked p (at ++ key k ∷ []) n (l ∷ ks) mention_kind ms is h)))
