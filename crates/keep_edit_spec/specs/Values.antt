-- Changes inside a value: where in it, and what there.
use Rattle.std.specs.Prelude.{ℕ, zero, suc, ◌+◌, ◌-◌, Bool, true, false, ◌&&◌, if◌then◌else◌, List, [], ◌∷◌, ◌++◌}
use Rattle.std.specs.Prelude.{length, take, codes, Option, Some, None}
use Rattle.std.specs.List.{list_any, flat_map}
use Rattle.keep_types.specs.declared.leaf.Leaf.{Leaf}
use Rattle.keep_types.specs.declared.leaf.Leaf.TheVariants as leaf
use Rattle.keep_syntax.specs.Tree.{Written, Gap, Further, Key, Name, Body, scalar, array, inline, Entries, none, entry}
use Rattle.keep_syntax.specs.Tree.{Value, further_leaves, named_leaves, opening, closing, comma_leaves, entries_leaves}
use Rattle.keep_syntax.specs.Tree.{value_leaves, text_of, token}
use Rattle.keep_syntax.specs.Grammar.{is_ws_leaf}
use Rattle.keep_path.specs.Path.{Part, key, index, same_path}
use Rattle.keep_meaning.specs.Meaning.{step}
use Rattle.keep_edit_spec.specs.Look.{strip, keys_in}
use Rattle.keep_edit_spec.specs.Changed.{Changed, within, or_else}

-- the texts of a tree's parts
abbrev pub entries_text : Entries → List ℕ
entries_text es = text_of (entries_leaves es)

-- an entry up to the end of its value, and from there on
abbrev pub entry_prefix : Option Name → Body → Entries → List ℕ
entry_prefix name body nested =
    text_of (named_leaves name) ++ (text_of (opening body) ++ (entries_text nested ++ text_of (closing body)))

abbrev pub entry_back : Gap → Option Gap → Entries → List ℕ
entry_back after comma rest = text_of after ++ (text_of (comma_leaves comma) ++ entries_text rest)

abbrev pub text_of_value : Value → List ℕ
text_of_value v = text_of (value_leaves v)

-- ---- to a place

-- what is done at a value, by the rest of the path there
abbrev pub Act : Type 0
Act = List Part → Value → Option (Changed Value)

-- At the entry that the path goes through or names: inside it if that can be done, and else at it.
abbrev pub in_entries : Act → List Part → ℕ → Entries → Option (Changed Entries)
in_entries act path n none = None
in_entries act path n (entry name body nested after comma rest) =
    elim (strip (step n name) path) [
      | None ↦ within (entry name body nested after comma)
          (entry_prefix name body nested ++ (text_of after ++ text_of (comma_leaves comma))) []
          (in_entries act path (n + 1) rest)
      | Some more ↦ within (λ v. entry name v.body v.nested after comma rest) (text_of (named_leaves name))
          (entry_back after comma rest)
          (or_else (within (λ es. record { body = body; nested = es }) (text_of (opening body)) (text_of (closing body))
          (in_entries act more 0 nested))
          (act more (record { body = body; nested = nested })))
    ]

abbrev pub in_value : Act → Act
in_value act path v =
    or_else (within (λ es. record v { nested = es }) (text_of (opening v.body)) (text_of (closing v.body))
    (in_entries act path 0 v.nested))
    (act path v)

-- ---- set: the value's text

abbrev pub replacement : Value → Act
replacement new [] v =
    Some (record { to = new; before = []; old = text_of_value v; new = text_of_value new; after = [] })
replacement new (p ∷ ps) v = None

-- ---- insert

abbrev pub space : Gap
space = token leaf.Ws (codes " ")

-- before item n
abbrev pub put_before : ℕ → Value → Entries → Option (Changed Entries)
put_before n new none = None
put_before n new (entry name body nested after comma rest) = elim n [
  | zero ↦ Some (record {
    to = entry None new.body new.nested [] (Some space) (entry name body nested after comma rest);
    before = [];
    old = [];
    new = text_of_value new ++ codes ", ";
    after = entries_text (entry name body nested after comma rest);
  })
  | suc m ↦ within (entry name body nested after comma)
      (entry_prefix name body nested ++ (text_of after ++ text_of (comma_leaves comma))) [] (put_before m new rest)
]

-- the entry goes past this path, or the path is empty
abbrev pub leads_past : List Part → Option Name → Bool
leads_past [] name = true
leads_past (p ∷ ps) name = elim (strip (p ∷ ps) (step 0 name)) [ None ↦ false | Some [] ↦ false | Some (q ∷ qs) ↦ true ]

-- after the last entry that goes past a path
abbrev pub put_after : List Part → Option Name → Value → Entries → Option (Changed Entries)
put_after prefix named new none = None
put_after prefix named new (entry name body nested after comma rest) =
    or_else (within (entry name body nested after comma)
    (entry_prefix name body nested ++ (text_of after ++ text_of (comma_leaves comma))) []
    (put_after prefix named new rest))
    (elim (leads_past prefix name) [
      | false ↦ None
      | true ↦ Some (record {
        to = entry name body nested [] (Some space) (entry named new.body new.nested after comma rest);
        before = entry_prefix name body nested;
        old = [];
        new = codes ", " ++ (text_of (named_leaves named) ++ text_of_value new);
        after = entry_back after comma rest;
      })
    ])

-- into empty brackets, or at the place that is given
abbrev pub bracketed_change : Option Name → Value → (Entries → Option (Changed Entries)) → Body → Entries
    → Option (Changed Value)
bracketed_change named new more (scalar w) nested = None
bracketed_change named new more (array first) none =
    Some (record {
      to = record { body = array []; nested = entry named new.body new.nested first None none };
      before = codes "[";
      old = [];
      new = text_of (named_leaves named) ++ text_of_value new;
      after = text_of first ++ codes "]";
    })
bracketed_change named new more (inline first) none =
    Some (record {
      to = record { body = inline []; nested = entry named new.body new.nested first None none };
      before = codes "{";
      old = [];
      new = text_of (named_leaves named) ++ text_of_value new;
      after = text_of first ++ codes "}";
    })
bracketed_change named new more (array first) (entry name body nested after comma rest) =
    within (λ es. record { body = array first; nested = es }) (codes "[" ++ text_of first) (codes "]")
    (more (entry name body nested after comma rest))
bracketed_change named new more (inline first) (entry name body nested after comma rest) =
    within (λ es. record { body = inline first; nested = es }) (codes "{" ++ text_of first) (codes "}")
    (more (entry name body nested after comma rest))

-- as item n of an array: before that item, or after the last
abbrev pub put_item : Value → Act
put_item new [] v = None
put_item new (part ∷ parts) v = elim part [
  | key text ↦ None
  | index n ↦ bracketed_change None new (λ es. or_else (put_before n new es) (put_after [] None new es)) v.body v.nested
]

-- In braces. The last `rest` parts of the path are new; the entry goes after the last that goes past the others.
abbrev pub put_named : (List (List ℕ) → Name) → ℕ → Value → Act
put_named name rest new path v =
    bracketed_change (Some (name (keys_in path))) new
    (put_after (take (length path - rest) path) (Some (name (keys_in path))) new) v.body v.nested

-- ---- remove

abbrev pub is_comment_leaf : Leaf → Bool
is_comment_leaf leaf.Comment = true
is_comment_leaf _ = false

-- two gaps as one, with each run of white space maximal
abbrev pub joined_gap : Gap → Gap → Gap
joined_gap [] h = h
joined_gap (w ∷ []) [] = w ∷ []
joined_gap (w ∷ []) (v ∷ h) =
    elim (is_ws_leaf w.leaf && is_ws_leaf v.leaf) [
      | true ↦ record { leaf = leaf.Ws; text = w.text ++ v.text }
          ∷ h
      | false ↦ w ∷ v ∷ h
    ]
joined_gap (w ∷ u ∷ g) h = w ∷ joined_gap (u ∷ g) h

-- a gap, if it holds a comment
abbrev pub preserved_gap : Gap → Gap
preserved_gap g = if list_any (λ w. is_comment_leaf w.leaf) g then g else []

-- the white space at the start of a gap, and what comes after it
abbrev pub prefix_ws : Gap → Gap
prefix_ws [] = []
prefix_ws (w ∷ g) = if is_ws_leaf w.leaf then w ∷ [] else []

abbrev pub past_ws : Gap → Gap
past_ws [] = []
past_ws (w ∷ g) = if is_ws_leaf w.leaf then g else w ∷ g

-- the entries of brackets, with the gap before them
pub record Row : Type 0 where
  pub gap : Gap
  pub entries : Entries

abbrev pub row_text : Row → List ℕ
row_text r = text_of r.gap ++ entries_text r.entries

-- with the comma after it
abbrev pub taken_first : Gap → Option Name → Body → Entries → Gap → Gap → Entries → Changed Row
taken_first gap name body nested after next_gap rest = record {
  to = record { gap = joined_gap gap (joined_gap (preserved_gap after) (past_ws next_gap)); entries = rest };
  before = text_of gap;
  old = entry_prefix name body nested ++ (text_of after ++ (codes "," ++ text_of (prefix_ws next_gap)));
  new = text_of (preserved_gap after);
  after = text_of (past_ws next_gap) ++ entries_text rest;
}

-- alone
abbrev pub taken_only : Gap → Option Name → Body → Entries → Gap → Changed Row
taken_only gap name body nested after = record {
  to = record { gap = joined_gap gap after; entries = none };
  before = text_of gap;
  old = entry_prefix name body nested;
  new = [];
  after = text_of after;
}

-- with the comma before it, after another entry
abbrev pub taken_last : Gap → Option Name → Body → Entries → Gap → Gap → Option Name → Body → Entries → Gap
    → Changed Row
taken_last gap name body nested after next_gap name' body' nested' after' = record {
  to =
      record {
        gap = gap;
        entries = entry name body nested
            (joined_gap after (joined_gap (preserved_gap next_gap) after')) None none;
      };
  before = text_of gap ++ (entry_prefix name body nested ++ text_of after);
  old = codes "," ++ (text_of next_gap ++ entry_prefix name' body' nested');
  new = text_of (preserved_gap next_gap);
  after = text_of after';
}

-- the one entry after a comma is the one that is named, and has no comma of its own
abbrev pub is_last_named : List Part → ℕ → Entries → Bool
is_last_named path n (entry name body nested after None none) = same_path (step n name) path
is_last_named path n _ = false

-- without the entry that the path names
abbrev pub take_out : List Part → ℕ → Gap → Entries → Option (Changed Row)
take_out path n gap none = None
take_out path n gap (entry name body nested after None none) =
    elim (same_path (step n name) path) [ true ↦ Some (taken_only gap name body nested after) | false ↦ None ]
take_out path n gap (entry name body nested after None (entry name' body' nested' after' comma' rest')) = None
take_out path n gap (entry name body nested after (Some next_gap) none) =
    elim (same_path (step n name) path) [
      | true ↦ Some
          (taken_first gap name body nested after next_gap none)
      | false ↦ None
    ]
take_out path n gap (entry name body nested after (Some next_gap) (entry name' body' nested' after' comma' rest')) =
    elim (same_path (step n name) path) [
      | true ↦ Some (taken_first gap name body nested after next_gap (entry name' body' nested' after' comma' rest'))
      | false ↦ elim (is_last_named path (n + 1) (entry name' body' nested' after' comma' rest')) [
        | true ↦ Some (taken_last gap name body nested after next_gap name' body' nested' after')
        | false ↦ within (λ r. record { gap = gap; entries = entry name body nested after (Some r.gap) r.entries })
            (text_of gap ++ (entry_prefix name body nested ++ (text_of after ++ codes ","))) []
            (take_out path (n + 1) next_gap (entry name' body' nested' after' comma' rest'))
      ]
    ]

abbrev pub removal : Act
removal path v = elim v.body [
  | scalar w ↦ None
  | array first ↦ within (λ r. record { body = array r.gap; nested = r.entries }) (codes "[") (codes "]")
      (take_out path 0 first v.nested)
  | inline first ↦ within (λ r. record { body = inline r.gap; nested = r.entries }) (codes "{") (codes "}")
      (take_out path 0 first v.nested)
]

-- ---- rename: one part of a key

abbrev pub rename_further : Written → ℕ → List Further → Option (Changed (List Further))
rename_further new n [] = None
rename_further new n (f ∷ fs) = elim n [
  | zero ↦ Some (record {
    to = record f { part = new } ∷ fs;
    before = text_of f.before ++ (codes "." ++ text_of f.after);
    old = f.part.text;
    new = new.text;
    after = text_of (flat_map further_leaves fs);
  })
  | suc m ↦ within (λ gs. f ∷ gs) (text_of (further_leaves f)) [] (rename_further new m fs)
]

abbrev pub rename_part : Written → ℕ → Key → Option (Changed Key)
rename_part new n k = elim n [
  | zero ↦ Some (record {
    to = record k { first = new };
    before = [];
    old = k.first.text;
    new = new.text;
    after = text_of (flat_map further_leaves k.more);
  })
  | suc m ↦ within (λ fs. record k { more = fs }) k.first.text [] (rename_further new m k.more)
]

abbrev pub rename_name : Written → ℕ → Name → Option (Changed Name)
rename_name new n name =
    within (λ k. record name { key = k }) [] (text_of name.before ++ (codes "=" ++ text_of name.after))
    (rename_part new n name.key)

-- the entry whose key goes through the path or ends there; its part with that number
abbrev pub rename_entry : Written → List Part → Entries → Option (Changed Entries)
rename_entry new path none = None
rename_entry new path (entry None body nested after comma rest) = None
rename_entry new path (entry (Some name) body nested after comma rest) =
    elim (strip path (step 0 (Some name))) [
      | Some more ↦ within (λ nm. entry (Some nm) body nested after comma rest) []
          (text_of (opening body) ++ (entries_text nested ++ (text_of (closing body) ++ entry_back after comma rest)))
          (rename_name new (length path - 1) name)
      | None ↦ within (entry (Some name) body nested after comma)
          (entry_prefix (Some name) body nested ++ (text_of after ++ text_of (comma_leaves comma))) []
          (rename_entry new path rest)
    ]

abbrev pub renaming : Written → Act
renaming new [] v = None
renaming new (p ∷ ps) v =
    within (λ es. record v { nested = es }) (text_of (opening v.body)) (text_of (closing v.body))
    (rename_entry new (p ∷ ps) v.nested)
