-- The values that an object gives by a table are in the grammars of their fields.
use Rattle.std.specs.Prelude.{◌≡◌, ◌≤◌, ◌&&◌, nat_le, ℕ, Bool, true, false, List, [], ◌∷◌, length, Option, Some, None, is_some, option_and_then, Result, Ok, Err, refl}
use Rattle.std.specs.Cmp.{first_so, second_so}
use Rattle.std.specs.List.{AllByRecursion}
use Rattle.std.proofs.Common.{ap, ◌∙◌, sym, subst, arith}
use Rattle.std.proofs.lemmas.Bool.{leb-true}
use Rattle.serde_json.specs.Data.{Data, object, Members, no_members, member}
use Rattle.serde_json.specs.Find.{get, as_str, as_array, as_object, as_number, as_u64}
use Rattle.match_language.specs.Nesting.{FitsLevels}
use Rattle.match_language.specs.Reading.{whole}
use Rattle.match_language.specs.declared.expr.Expr.{Expr}
use Rattle.match_language.specs.declared.fault.MatchFault.{MatchFault}
use Rattle.match_language.specs.declared.field.Direction.{Direction}
use Rattle.match_language.specs.declared.field.Direction.TheVariants as way
use Rattle.match_language.proofs.Depth.{spelled_fits}
use Rattle.match_language.proofs.ParseLaws.{whole_found}
use Rattle.match_language.proofs.Ways.{fits_to}
use Rattle.ovn_base.specs.declared.address.Cidr.{Cidr}
use Rattle.ovn_base.specs.declared.limits.TheConstants.{MAX_DEPTH}
use Rattle.ovn_base.specs.names.NameText.{IsName}
use Rattle.nb_records.specs.Grammar.{IfGiven, IsIp4, IsCidr, IsBackend, IsPortAddress, IsSecurityEntry, IsSetEntry, AreNetworks, AreVips}
use Rattle.nb_records.specs.declared.balancer.Vip.{Vip}
use Rattle.edit_reader.specs.Outcomes.{Read, of_kind, in_range}
use Rattle.edit_reader.specs.Fields.{needed_at, needed, given_at, given, default_at, default_or, needed_where, text_in, text_by, texts_of, each_by, texts_by, between, number_in}
use Rattle.edit_reader.specs.Fitting.{AreBytes}
use Rattle.edit_reader.specs.Grammars.{spelled_prefix}
use Rattle.edit_reader.specs.Tables.{Grammar, names, macs, ips, prefixes, ips_or_prefixes, backends, port_addresses, security_entries, set_entries, port_kinds, nat_kinds, directions, actions, protocols, frames, SpelledAs, spelled_as, Shape, a_text, texts, networks, a_flag, a_number, a_match, vips, ValueOf, few_networks, networks_in, has, way_in, match_of, match_in, reads_as, Need, required, by_default, optional, only_where, Taken, field_by, Row, ValuesOf, values_of, Changed, ChangesOf, change_by, changes_of}
use Rattle.edit_reader.specs.Vips.{member_texts, vips_by, vips_in}
use Rattle.edit_reader.proofs.FramesFit.{frame_fits}
use Rattle.edit_reader.proofs.NamesOnce.{IsBelow, InOrder, MembersInOrder, found_in_order, below_apart}
use Rattle.edit_reader.proofs.ReadSteps.{found, ok_is, some_is, not_none, bound, chosen_some, kind_is, range_is}
use Rattle.edit_reader.proofs.TextsFit.{name_fits, ip_fits, cidr_fits, prefix_fits, backend_fits, port_address_fits, security_fits, set_entry_fits, each_fits, each_long}
use Rattle.edit_reader.proofs.VipsFit.{AreApart, vips_fit}

-- ---- one value

-- what holds of a value of the grammar
abbrev pub FitsGrammar : (g : Grammar) → SpelledAs g → Type 0
FitsGrammar names = IsName
FitsGrammar macs = λ x. Unit {0}
FitsGrammar ips = IsIp4
FitsGrammar prefixes = IsCidr
FitsGrammar ips_or_prefixes = IsCidr
FitsGrammar backends = IsBackend
FitsGrammar port_addresses = IsPortAddress
FitsGrammar security_entries = IsSecurityEntry
FitsGrammar set_entries = IsSetEntry
FitsGrammar port_kinds = λ x. Unit {0}
FitsGrammar nat_kinds = λ x. Unit {0}
FitsGrammar directions = λ x. Unit {0}
FitsGrammar actions = λ x. Unit {0}
FitsGrammar protocols = λ x. Unit {0}
FitsGrammar frames = AreBytes

spelled_fit : (g : Grammar) (text : List ℕ) (x : SpelledAs g) → spelled_as g text ≡ Some x → FitsGrammar g x
spelled_fit names text x e = name_fits text x e
spelled_fit macs text x e = tt
spelled_fit ips text x e = ip_fits text x e
spelled_fit prefixes text x e = prefix_fits text x e
spelled_fit ips_or_prefixes text x e = cidr_fits text x e
spelled_fit backends text x e = backend_fits text x e
spelled_fit port_addresses text x e = port_address_fits text x e
spelled_fit security_entries text x e = security_fits text x e
spelled_fit set_entries text x e = set_entry_fits text x e
spelled_fit port_kinds text x e = tt
spelled_fit nat_kinds text x e = tt
spelled_fit directions text x e = tt
spelled_fit actions text x e = tt
spelled_fit protocols text x e = tt
spelled_fit frames text x e = frame_fits text x e

-- what holds of a value of the shape
abbrev pub FitsShape : (s : Shape) → ValueOf s → Type 0
FitsShape (a_text g) = FitsGrammar g
FitsShape (texts g) = AllByRecursion (FitsGrammar g)
FitsShape networks = AreNetworks
FitsShape a_flag = λ x. Unit {0}
FitsShape (a_number least most) = λ n. (least ≤ n) × (n ≤ most)
FitsShape a_match = FitsLevels way.ToLport MAX_DEPTH
FitsShape vips = AreVips

-- what a text is, is what its grammar spells
pub text_spelled : {A : Type 0} (grammar : List ℕ → Option A) (field : List ℕ) (d : Data) (x : A) → text_by grammar field d ≡ Ok x → (text : List ℕ) × (as_str d ≡ Some text) × (grammar text ≡ Some x)
unfolding text_by
text_spelled grammar field d x e =
    let text = bound (text_in field d) _ x e in
    (text.0, kind_is field (as_str d) text.0 text.1, range_is field (grammar text.0) x text.2)

texts_spelled : {A : Type 0} (P : A → Type 0) (grammar : List ℕ → Option A) → ((text : List ℕ) (x : A) → grammar text ≡ Some x → P x) → (field : List ℕ) (d : Data) (xs : List A) → texts_by grammar field d ≡ Ok xs → AllByRecursion P xs
unfolding texts_by
texts_spelled P grammar fits field d xs e =
    let items = bound (of_kind field (as_array d)) _ xs e in
    let read = bound (texts_of field items.0) _ xs items.2 in
    each_fits P grammar fits read.0 xs (range_is field (each_by grammar read.0) xs read.2)

networks_fit : (field : List ℕ) (d : Data) (xs : List Cidr) → networks_in field d ≡ Ok xs → AreNetworks xs
unfolding networks_in
networks_fit field d xs e =
    let items = bound (of_kind field (as_array d)) _ xs e in
    let read = bound (texts_of field items.0) _ xs items.2 in
    let few = bound (in_range field (few_networks read.0)) _ xs read.2 in
    let chose = chosen_some (nat_le 1 (length read.0) && nat_le (length read.0) 16) (Some read.0) few.0 (range_is field (few_networks read.0) few.0 few.1) in
    let same = some_is read.0 few.0 chose.1 in
    let spelled = range_is field (each_by spelled_prefix few.0) xs few.2 in
    let long = each_long IsCidr spelled_prefix prefix_fits few.0 xs spelled ∙ ap length (sym same) in
    let some = leb-true 1 (length read.0) (first_so (nat_le 1 (length read.0)) (nat_le (length read.0) 16) chose.0) in
    let most = leb-true (length read.0) 16 (second_so (nat_le 1 (length read.0)) (nat_le (length read.0) 16) chose.0) in
    record {
      each = each_fits IsCidr spelled_prefix prefix_fits few.0 xs spelled;
      some = omega (arith, long, some);
      few = omega (arith, long, most);
    }

number_fits : (least most : ℕ) (field : List ℕ) (d : Data) (n : ℕ) → number_in least most field d ≡ Ok n → (least ≤ n) × (n ≤ most)
unfolding number_in
number_fits least most field d n e =
    let read = bound (of_kind field (option_and_then as_u64 (as_number d))) _ n e in
    let chose = chosen_some (nat_le least read.0 && nat_le read.0 most) (Some read.0) n (range_is field (between least most read.0) n read.2) in
    subst (λ (k : ℕ). (least ≤ k) × (k ≤ most)) (some_is read.0 n chose.1)
    (leb-true least read.0 (first_so (nat_le least read.0) (nat_le read.0 most) chose.0), leb-true read.0 most (second_so (nat_le least read.0) (nat_le read.0 most) chose.0))

match_read : (r : Result Expr MatchFault) (x : Expr) → match_of r ≡ Ok x → r ≡ Ok x
match_read (Ok y) x e = let same : y ≡ x = ok_is y x e in λ i. Ok (same i)
match_read (Err f) x e = absurd cc

match_fits : (of : Direction) (field : List ℕ) (d : Data) (x : Expr) → match_in of field d ≡ Ok x → FitsLevels way.ToLport MAX_DEPTH x
unfolding match_in
match_fits of field d x e =
    let text = bound (text_in field d) _ x e in
    fits_to of MAX_DEPTH x (spelled_fits of text.0 x (whole_found of text.0 x (match_read (whole of text.0) x text.2)))

-- the names of the texts are those of the members
below_texts : (field k : List ℕ) (ms : Members) (found_texts : List (List ℕ × List ℕ)) → IsBelow k ms → member_texts field ms ≡ Ok found_texts → AllByRecursion (λ n. k ≡ n.0 → ⊥) found_texts
below_texts field k no_members found_texts h e = subst (AllByRecursion (λ n. k ≡ n.0 → ⊥)) (ok_is [] found_texts e) tt
below_texts field k (member l d ms) found_texts h e =
    let text = bound (text_in field d) _ found_texts e in
    let rest = bound (member_texts field ms) _ found_texts text.2 in
    subst (AllByRecursion (λ n. k ≡ n.0 → ⊥)) (ok_is ((l, text.0) ∷ rest.0) found_texts rest.2) (below_apart k l h.0, below_texts field k ms rest.0 h.1 rest.1)

texts_apart : (field : List ℕ) (ms : Members) (found_texts : List (List ℕ × List ℕ)) → MembersInOrder ms → member_texts field ms ≡ Ok found_texts → AreApart found_texts
texts_apart field no_members found_texts h e = subst AreApart (ok_is [] found_texts e) tt
texts_apart field (member k d ms) found_texts h e =
    let text = bound (text_in field d) _ found_texts e in
    let rest = bound (member_texts field ms) _ found_texts text.2 in
    subst AreApart (ok_is ((k, text.0) ∷ rest.0) found_texts rest.2) (below_texts field k ms rest.0 h.0 rest.1, texts_apart field ms rest.0 h.2 rest.1)

object_in_order : (d : Data) (ms : Members) → InOrder d → as_object d ≡ Some ms → MembersInOrder ms
object_in_order (object ns) ms h e = subst MembersInOrder (some_is ns ms e) h
object_in_order _ ms h e = absurd (not_none ms e)

vips_in_fit : (field : List ℕ) (d : Data) (xs : List Vip) → InOrder d → vips_in field d ≡ Ok xs → AreVips xs
unfolding vips_in
vips_in_fit field d xs h e =
    let members = bound (of_kind field (as_object d)) _ xs e in
    let read = bound (member_texts field members.0) _ xs members.2 in
    vips_fit read.0 xs (texts_apart field members.0 read.0 (object_in_order d members.0 h (kind_is field (as_object d) members.0 members.1)) read.1) (range_is field (vips_by [] read.0) xs read.2)

-- what reading gives fits its shape
pub value_fits : (s : Shape) (o : Data) (field : List ℕ) (d : Data) (x : ValueOf s) → InOrder d → reads_as s o field d ≡ Ok x → FitsShape s x
value_fits (a_text g) o field d x h e = let text = text_spelled (spelled_as g) field d x e in spelled_fit g text.0 x text.2
value_fits (texts g) o field d x h e = texts_spelled (FitsGrammar g) (spelled_as g) (spelled_fit g) field d x e
value_fits networks o field d x h e = networks_fit field d x e
value_fits a_flag o field d x h e = tt
value_fits (a_number least most) o field d x h e = number_fits least most field d x e
value_fits a_match o field d x h e = match_fits (way_in o) field d x e
value_fits vips o field d x h e = vips_in_fit field d x h e

-- ---- one field

-- it is there exactly where the test says so
abbrev pub FitsWhere : {A : Type 0} → (A → Type 0) → Bool → Bool → Option A → Type 0
FitsWhere P asked there None = asked ≡ false
FitsWhere P asked there (Some x) = (asked ≡ true) × (there ≡ true) × P x

-- what holds of the value of a field: it fits where a default does
abbrev pub FitsNeed : {A : Type 0} (P : A → Type 0) (need : Need A) → List ℕ → Data → Taken need → Type 0
FitsNeed P required field d x = P x
FitsNeed P (by_default y) field d x = P y → P x
FitsNeed P optional field d x = IfGiven P x
FitsNeed P (only_where test) field d x = FitsWhere P (test d) (has field d) x

module _ {A : Type 0} (P : A → Type 0) (reads : List ℕ → Data → Read A) (field : List ℕ) (d : Data) (ordered : InOrder d) (fits : (v : Data) (x : A) → InOrder v → reads field v ≡ Ok x → P x) where
  found_fits : (v : Data) (x : A) → get field d ≡ Some v → reads field v ≡ Ok x → P x
  found_fits v x at e = fits v x (found_in_order field d v ordered at) e

  pub needed_fits : (x : A) → needed reads field d ≡ Ok x → (has field d ≡ true) × P x
  unfolding needed
  needed_fits x e = by (get field d) refl e
    where
      by : (o : Option Data) → get field d ≡ o → needed_at reads field o ≡ Ok x → (is_some o ≡ true) × P x
      by (Some v) at g = (refl, found_fits v x at g)
      by None at g = absurd cc

  given_fits : (x : Option A) → given reads field d ≡ Ok x → IfGiven P x
  unfolding given
  given_fits x e = by (get field d) refl e
    where
      by : (o : Option Data) → get field d ≡ o → given_at reads field o ≡ Ok x → IfGiven P x
      by (Some v) at g = let y = bound (reads field v) _ x g in subst (IfGiven P) (ok_is (found y.0) x y.2) (found_fits v y.0 at y.1)
      by None at g = subst (IfGiven P) (ok_is None x g) tt

  default_fits : (y x : A) → default_or reads y field d ≡ Ok x → P y → P x
  unfolding default_or
  default_fits y x e own = by (get field d) refl e
    where
      by : (o : Option Data) → get field d ≡ o → default_at reads y field o ≡ Ok x → P x
      by (Some v) at g = found_fits v x at g
      by None at g = subst P (ok_is y x g) own

  where_fits : (asked : Bool) (x : Option A) → needed_where asked reads field d ≡ Ok x → FitsWhere P asked (has field d) x
  unfolding needed_where
  where_fits true x e =
      let y = bound (needed reads field d) _ x e in
      let is = needed_fits y.0 y.1 in
      subst (FitsWhere P true (has field d)) (ok_is (found y.0) x y.2) (refl, is.0, is.1)
  where_fits false x e = subst (FitsWhere P false (has field d)) (ok_is None x e) refl

  field_fits : (need : Need A) (x : Taken need) → field_by need reads field d ≡ Ok x → FitsNeed P need field d x
  field_fits required x e = (needed_fits x e).1
  field_fits (by_default y) x e = default_fits y x e
  field_fits optional x e = given_fits x e
  field_fits (only_where test) x e = where_fits (test d) x e

-- ---- tables

abbrev pub Fit : (rows : List Row) → Data → ValuesOf rows → Type 0
Fit [] d v = Unit {0}
Fit (r ∷ rs) d v = FitsNeed (FitsShape r.shape) r.need r.name d v.0 × Fit rs d v.1

-- each value is what its field reads
abbrev pub AreRead : (rows : List Row) → Data → ValuesOf rows → Type 0
AreRead [] d v = Unit {0}
AreRead (r ∷ rs) d v = (field_by r.need (reads_as r.shape d) r.name d ≡ Ok v.0) × AreRead rs d v.1

pub values_read : (rows : List Row) (d : Data) (v : ValuesOf rows) → values_of rows d ≡ Ok v → AreRead rows d v
values_read [] d v e = tt
values_read (r ∷ rs) d v e =
    let x = bound (field_by r.need (reads_as r.shape d) r.name d) _ v e in
    let xs = bound (values_of rs d) _ v x.2 in
    subst (AreRead (r ∷ rs) d) (ok_is (x.0, xs.0) v xs.2) (x.1, values_read rs d xs.0 xs.1)

pub read_fit : (rows : List Row) (d : Data) (v : ValuesOf rows) → InOrder d → AreRead rows d v → Fit rows d v
read_fit [] d v h e = tt
read_fit (r ∷ rs) d v h e = (field_fits (FitsShape r.shape) (reads_as r.shape d) r.name d h (λ w x g k. value_fits r.shape d r.name w x g k) r.need v.0 e.0, read_fit rs d v.1 h e.1)

pub values_fit : (rows : List Row) (d : Data) (v : ValuesOf rows) → InOrder d → values_of rows d ≡ Ok v → Fit rows d v
values_fit rows d v h e = read_fit rows d v h (values_read rows d v e)

abbrev FitChanged : {A B : Type 0} → (A → Type 0) → (B → Type 0) → (refused : Bool) → Changed refused A B → Type 0
FitChanged P Q true v = Q v
FitChanged P Q false v = IfGiven P v.0 × Q v.1

abbrev pub FitChanges : (rows : List Row) → ChangesOf rows → Type 0
FitChanges [] v = Unit {0}
FitChanges (r ∷ rs) v = FitChanged (FitsShape r.shape) (FitChanges rs) r.fixed v

pub changes_fit : (rows : List Row) (d : Data) (v : ChangesOf rows) → InOrder d → changes_of rows d ≡ Ok v → FitChanges rows v
changes_fit [] d v h e = tt
changes_fit (r ∷ rs) d v h e = by (λ w g. changes_fit rs d w h g) r.fixed v e
  where
    by : ((w : ChangesOf rs) → changes_of rs d ≡ Ok w → FitChanges rs w) → (refused : Bool) (v : Changed refused (ValueOf r.shape) (ChangesOf rs)) → change_by refused (reads_as r.shape d) r.name d (changes_of rs d) ≡ Ok v → FitChanged (FitsShape r.shape) (FitChanges rs) refused v
    by others true v g = others v g
    by others false v g =
        let x = bound (given (reads_as r.shape d) r.name d) _ v g in
        let xs = bound (changes_of rs d) _ v x.2 in
        subst (FitChanged (FitsShape r.shape) (FitChanges rs) false) (ok_is (x.0, xs.0) v xs.2)
        (given_fits (FitsShape r.shape) (reads_as r.shape d) r.name d h (λ w y k l. value_fits r.shape d r.name w y k l) x.0 x.1, others xs.0 xs.1)
