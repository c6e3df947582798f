-- Reading a header of the flat list as the statement that it is.
--
-- The code reads a header by its kind and its key, as the statement `head_of` of the two; any kind but `Element` is
-- read as `[..]` (`head_other`). Each statement of the definitions that the one of the flat list matches is this one,
-- as it has no value and a keyval has one (`mentions_head`). So what reading `head_of` does to the nodes and the facts
-- is what reading the statement does (`head_is_read`), and its fault is the statement's fault (`head_break`). A header
-- gives no values (`head_none`), so none is given to a path that is there (`no_values`). That the keys can be read
-- comes from the match too (`statement_keys`).
--
-- Theorems: `head_read`: where the header was read, the statement was; `head_breaks`: where it is refused, the
-- statement breaks the rules.
use Rattle.std.proofs.Common.{◌≡◌, ℕ, Bool, true, false, List, [], ◌∷◌, ◌++◌, refl, sym, ◌∙◌, ap, subst, Some, None, Ok}
use Rattle.std.proofs.Common.{Err, if◌then◌else◌, ◌==◌}
use Rattle.std.specs.Prelude.{IfErr, IfOk, Result}
use Rattle.std.specs.List.{AllByRecursion}
use Rattle.keep_types.specs.declared.syntax.KeyPart.{KeyPart}
use Rattle.keep_types.specs.declared.syntax.Statement.{Statement}
use Rattle.keep_types.specs.declared.syntax.StatementKind.{StatementKind}
use Rattle.keep_types.specs.declared.syntax.StatementKind.TheVariants.{KeyVal, Header, Element}
use Rattle.keep_types.specs.declared.syntax.ValueInfo.{ValueInfo}
use Rattle.keep_syntax_store.specs.Flat.{Flat}
use Rattle.keep_syntax.specs.declared.fault.Why.{Why}
use Rattle.keep_rules.specs.declared.definitions.DefineFault.{DefineFault}
use Rattle.keep_path.specs.Path.{Part, key}
use Rattle.keep_meaning.specs.Marks as marks
use Rattle.keep_meaning.specs.Marks.{Mention, Reading, statement_mentions, header_prefixes, passing_mentions}
use Rattle.keep_meaning.specs.Marks.{entered_path, elements_of}
use Rattle.keep_meaning.specs.Counts.{Count, is_value, numbered_mentions, count_with_mention}
use Rattle.keep_meaning.specs.Nodes.{paths_with}
use Rattle.keep_rules.specs.Keys.{AreReadable, AreKeysAt, Key, key_of}
use Rattle.keep_meaning.specs.KeyText.{keys_in}
use Rattle.keep_index_store.specs.Tree.{TrieInfos}
use Rattle.keep_rules.specs.Reads.{Reads, FaultsIn}
use Rattle.keep_rules.specs.Represents.{FaultFrom}
use Rattle.keep_rules.specs.Statements.{header_of}
use Rattle.keep_rules.specs.DefineFaults.{FaultMeets}
use Rattle.keep_rules.specs.AddedInfos.{StatementAdds}
use Rattle.keep_rules.specs.Defines.{DefinesHead}
use Rattle.keep_rules.specs.MentionInfos.{ValuesAreNew}
use Rattle.keep_rules.specs.FlatStatements.{MatchesKeys, MatchesStatement}
use Rattle.keep_rules.specs.ReadStatements.{head_of, IsRead, IsReadAsMatched, BreaksAsMatched}
use Rattle.keep_rules.proofs.BuildLemmas.{meets_weaker}

-- any other statement is read as `[..]`
pub head_other : (kind : StatementKind) (k : Key) → (kind ≡ Element → ⊥) → head_of kind k ≡ header_of k
head_other KeyVal k other = refl
head_other Header k other = refl
head_other Element k other = absurd (other refl)

-- ---- keys

keys_readable : (bytes : List ℕ) (parts : List KeyPart) (st : Statement) (ks : List (List ℕ)) → AreReadable bytes parts
    → MatchesKeys bytes parts st ks → AreKeysAt bytes parts st.first_key st.keys
keys_readable bytes parts st ks readable matches =
    record { some = matches.some; within = matches.within; each = readable }

-- the keys of a statement can be read
pub statement_keys : (bytes : List ℕ) (parts : List KeyPart) (values : List ValueInfo) (st : Statement)
    (s : marks.Statement) → AreReadable bytes parts → MatchesStatement bytes parts values st s
    → AreKeysAt bytes parts st.first_key st.keys
statement_keys bytes parts values st (marks.header ks) readable matches =
    keys_readable bytes parts st ks readable matches.2
statement_keys bytes parts values st (marks.element_header ks) readable matches =
    keys_readable bytes parts st ks readable matches.2
statement_keys bytes parts values st (marks.keyval ms) readable matches =
    keys_readable bytes parts st _ readable matches.keys

-- a statement with no value is a header with its keys
mentions_head : (bytes : List ℕ) (f : Flat) (st : Statement) (k : Key) (s : marks.Statement)
    → k.texts ≡ keys_in bytes f.keys st.first_key st.keys → st.value ≡ None
    → MatchesStatement bytes f.keys f.values st s → head_of st.kind k ≡ s
mentions_head bytes f st k (marks.header ks) texts none matches =
    ap (λ kind. head_of kind k) matches.0 ∙ ap marks.header (texts ∙ matches.2.keys)
mentions_head bytes f st k (marks.element_header ks) texts none matches =
    ap (λ kind. head_of kind k) matches.0 ∙ ap marks.element_header (texts ∙ matches.2.keys)
mentions_head bytes f st k (marks.keyval ms) texts none matches =
    let no : None ≡ Some matches.valued.first = sym none ∙ matches.valued.valued in
    absurd (cc)

-- ---- headers give no values

abbrev IsNoValue : Mention → Type 0
IsNoValue m = is_value m.kind ≡ false

no_values : (paths : List (List Part)) (c : Count) (ms : List Mention) → AllByRecursion IsNoValue ms
    → ValuesAreNew paths (numbered_mentions c ms)
no_values paths c [] none = tt
no_values paths c (m ∷ ms) none = (
  λ is met. absurd (let no : true ≡ false = sym is ∙ none.0 in cc),
  no_values (paths_with paths m.path) (count_with_mention c m) ms none.1,
)

none-append : (xs ys : List Mention) → AllByRecursion IsNoValue xs → AllByRecursion IsNoValue ys
    → AllByRecursion IsNoValue (xs ++ ys)
none-append [] ys h g = g
none-append (x ∷ xs) ys h g = (h.0, none-append xs ys h.1 g)

either_none : (b : Bool) (xs ys : List Mention) → AllByRecursion IsNoValue xs → AllByRecursion IsNoValue ys
    → AllByRecursion IsNoValue (if b then xs else ys)
either_none true xs ys h g = h
either_none false xs ys h g = g

leading_none : (tables : List (List Part)) (at : List Part) (ks : List (List ℕ))
    → AllByRecursion IsNoValue (header_prefixes tables at ks)
leading_none tables at [] = tt
leading_none tables at (k ∷ []) = tt
leading_none tables at (k ∷ l ∷ ks) =
    none-append (passing_mentions tables (at ++ key k ∷ []))
    (header_prefixes tables (entered_path tables (at ++ key k ∷ [])) (l ∷ ks))
    (either_none (0 == elements_of (at ++ key k ∷ []) tables) _ _ (refl, tt) (refl, (refl, tt)))
    (leading_none tables (entered_path tables (at ++ key k ∷ [])) (l ∷ ks))

head_none : (kind : StatementKind) (k : Key) (r : Reading)
    → AllByRecursion IsNoValue (statement_mentions r (head_of kind k))
head_none KeyVal k r = none-append (header_prefixes r.tables [] k.texts) _ (leading_none r.tables [] k.texts) (refl, tt)
head_none Header k r = none-append (header_prefixes r.tables [] k.texts) _ (leading_none r.tables [] k.texts) (refl, tt)
head_none Element k r =
    none-append (header_prefixes r.tables [] k.texts) _ (leading_none r.tables [] k.texts) (refl, (refl, tt))

-- ---- read, with its facts added

pub head_is_read : (bytes : List ℕ) (f : Flat) (number : ℕ) (st : Statement) (k : Key) (old new : TrieInfos) (to : ℕ)
    → k.texts ≡ keys_in bytes f.keys st.first_key st.keys → st.value ≡ None
    → ((body : ℕ) → Reads old.trie body new.trie to (head_of st.kind k))
    → StatementAdds old new st.first_key number (head_of st.kind k)
    → (body : ℕ) → IsReadAsMatched bytes f number st old body new to
head_is_read bytes f number st k old new to texts none reads joined body s matches =
    subst (IsRead number st old body new to) (mentions_head bytes f st k s texts none matches) (record {
      reads = reads body;
      joined = λ ms r reading c counted. record {
        joined = joined ms r body reading c counted.keys counted.statements;
        fresh = no_values _ c (statement_mentions r (head_of st.kind k)) (head_none st.kind k r);
      };
    })

-- ---- the header of either kind, and its faults

pub head_read : (r : Result ℕ DefineFault) (bytes : List ℕ) (f : Flat) (number : ℕ) (st : Statement) (k : Key)
    (old new : TrieInfos) (s : marks.Statement) → s ≡ head_of st.kind k
    → k ≡ key_of bytes f.keys st.first_key st.keys → st.value ≡ None → (body : ℕ)
    → IfOk r (DefinesHead old new k.first number s) → IfOk r (IsReadAsMatched bytes f number st old body new)
head_read (Err e) bytes f number st k old new s is own none body defines = tt
head_read (Ok to) bytes f number st k old new s is own none body defines =
    head_is_read bytes f number st k old new to (ap (λ (x : Key). x.texts) own) none
    (λ at. subst (λ (x : marks.Statement). Reads old.trie at new.trie to x) is (defines.node at))
    (subst (λ (n : ℕ). StatementAdds old new n number (head_of st.kind k)) (ap (λ (x : Key). x.first) own)
    (subst (λ (x : marks.Statement). StatementAdds old new k.first number x) is defines.facts)) body

head_break : (bytes : List ℕ) (f : Flat) (st : Statement) (k : Key) (old : TrieInfos) (at : ℕ) (why : Why)
    (s : marks.Statement) → s ≡ head_of st.kind k → k ≡ key_of bytes f.keys st.first_key st.keys → st.value ≡ None
    → ((body : ℕ) → FaultsIn old.trie body s k.first at why) → (body : ℕ) → BreaksAsMatched bytes f st old body at why
head_break bytes f st k old at why s is own none faults body x matches ms r reading =
    subst (λ (n : ℕ). FaultFrom ms (statement_mentions r x) n at why) (ap (λ (y : Key). y.first) own)
    (subst (λ (y : marks.Statement). FaultFrom ms (statement_mentions r y) k.first at why)
    (is ∙ mentions_head bytes f st k x (ap (λ (y : Key). y.texts) own) none matches) (faults body ms r reading))

pub head_breaks : (r : Result ℕ DefineFault) (bytes : List ℕ) (f : Flat) (st : Statement) (k : Key) (old : TrieInfos)
    (s : marks.Statement) → s ≡ head_of st.kind k → k ≡ key_of bytes f.keys st.first_key st.keys → st.value ≡ None
    → (body : ℕ) → IfErr r (λ fault. FaultMeets fault (λ at why. (body : ℕ) → FaultsIn old.trie body s k.first at why))
    → IfErr r (λ fault. FaultMeets fault (BreaksAsMatched bytes f st old body))
head_breaks (Ok to) bytes f st k old s is own none body faults = tt
head_breaks (Err g) bytes f st k old s is own none body faults =
    meets_weaker g (λ at why. (body : ℕ) → FaultsIn old.trie body s k.first at why)
    (BreaksAsMatched bytes f st old body)
    (λ at why one. head_break bytes f st k old at why s is own none one body) faults
