-- A match holds by the numbers in registers exactly where it holds of the packet with its ports as identities.
use Rattle.std.specs.Prelude.{◌≡◌, ℕ, true, false, not, ◌&&◌, ◌||◌, nat_lt, ◌^◌, List, [], ◌∷◌, ◌++◌, map, Option, Some, None}
use Rattle.std.specs.List.{list_all, list_any}
use Rattle.std.proofs.Common.{refl, sym, ap, ◌∙◌}
use Rattle.std.proofs.Math.Bool.{or-false}
use Rattle.std.proofs.lemmas.Bool.{and_parts, false≢true, not_from_true}
use Rattle.std.proofs.lemmas.List.Folds.{list_any-append}
use Rattle.ovn_base.specs.declared.address.SetEntry.{SetEntry}
use Rattle.ovn_base.specs.declared.address.SetEntry.TheVariants as entry
use Rattle.ovn_base.specs.declared.name.Name.{Name}
use Rattle.inet_packet.specs.declared.regs.Reg.TheVariants as reg
use Rattle.inet_packet.specs.declared.regs.Regs.{Regs}
use Rattle.match_language.specs.Tables.{is_port_field}
use Rattle.match_language.specs.declared.expr.Expr.{Expr}
use Rattle.match_language.specs.declared.expr.Rel.{Rel}
use Rattle.match_language.specs.declared.expr.Rel.TheVariants as r
use Rattle.match_language.specs.declared.expr.Value.{Value}
use Rattle.match_language.specs.declared.expr.Value.TheVariants as v
use Rattle.match_language.specs.declared.field.Field.{Field}
use Rattle.match_language.specs.declared.field.Field.TheVariants as f
use Rattle.match_cubes.proofs.Relations.{Zips, zips_none, zips_more, related}
use Rattle.match_cubes.specs.Asked.{number_in, bit_width}
use Rattle.match_cubes.specs.Holds.{equals, is_ordered, stands_in, has_needs, all_true, one_true, truth, holds}
use Rattle.match_cubes.specs.Points.{Setting, entry_bits, port_bits, points_of, points}
use Rattle.match_cubes.specs.Suited.{suits, are_suited}
use Rattle.match_cubes.specs.declared.sets.Sets.{Sets}
use Rattle.nb_records.proofs.AnyLaws.{any_map, any_same}
use Rattle.flow_lowering.specs.LoweredFlows.{setting_on}
use Rattle.net_model.specs.Sights.{Sight, Roster, is_live_one, is_port_of, port_relates, numbers_of, no_regs, compares, truth_at, holds_at}
use Rattle.tunnel_keys.specs.Keys.{Keys, IsKeys}
use Rattle.tunnel_keys.specs.declared.owner.Identity.{Identity}
use Rattle.row_laws.proofs.lowered.PortKeys.{key_test}
use Rattle.row_laws.specs.Numbers.{HasNumbersInRange}

-- a port field takes no number
no_number : (g : Field) (n m : ℕ) → is_port_field g ≡ true → suits g (v.Number n m) ≡ true → ⊥
no_number g n m port h = false≢true (sym (not_from_true (is_port_field g) port) ∙ (and_parts (not (is_port_field g)) (nat_lt n (2 ^ bit_width g) && nat_lt m (2 ^ bit_width g)) h).0)

-- lists of which each element is that of the other are one
pub zipped : {X : Type 0} (xs ys : List X) → Zips (λ a b. a ≡ b) xs ys → xs ≡ ys
zipped [] [] zips_none = refl
zipped (x ∷ xs) (y ∷ ys) (zips_more _ _ _ _ e z) = λ i. e i ∷ zipped xs ys z i
zipped [] (y ∷ ys) z = elim z [ ]
zipped (x ∷ xs) [] z = elim z [ ]

module _ (keys : Keys) (hold : IsKeys keys) (sets : Sets) (who : Roster) (d : Name) (regs : Regs) (s : Sight) (h : HasNumbersInRange keys sets who d regs s) where
  abbrev here : Setting
  here = setting_on keys sets d

  -- ---- ports

  module _ (g : Field) (port : is_port_field g ≡ true) (no_entry : (e : SetEntry) → entry_bits g e ≡ None) (id : Option Identity) (n : ℕ)
      (test : (q : Name) → equals n (port_bits here q) ≡ is_live_one id (who.live q)) where
    no_entries : (es : List SetEntry) → list_any (equals n) (map (entry_bits g) es) ≡ false
    no_entries [] = refl
    no_entries (e ∷ es) = ap (λ o. equals n o || list_any (equals n) (map (entry_bits g) es)) (no_entry e) ∙ no_entries es

    port_value : (x : Value) → suits g x ≡ true → list_any (equals n) (points_of here g x) ≡ is_port_of who id x
    port_value (v.Number m k) ok = absurd (no_number g m k port ok)
    port_value (v.Port text) ok = or-false (equals n (port_bits here text)) ∙ test text
    port_value (v.Set name) ok = no_entries (here.members.entries name)
    port_value (v.Group name) ok =
        any_map (equals n) (port_bits here) (here.members.ports name)
        ∙ any_same (λ q. equals n (port_bits here q)) (λ q. is_live_one id (who.live q)) test (here.members.ports name)
        ∙ ap (list_any (λ q. is_live_one id (who.live q))) (sym (h.members.ports name))

    port_values : (xs : List Value) → list_all (suits g) xs ≡ true → list_any (equals n) (points here g xs) ≡ list_any (is_port_of who id) xs
    unfolding points
    port_values [] ok = refl
    port_values (x ∷ xs) ok =
        let parts = and_parts (suits g x) (list_all (suits g) xs) ok in
        list_any-append (equals n) (points_of here g x) (points here g xs) ∙ (λ i. port_value x parts.0 i || port_values xs parts.1 i)

    no_order : (rel : Rel) (xs : List Value) → list_all (suits g) xs ≡ true → is_ordered rel xs n ≡ false
    no_order rel [] ok = refl
    no_order rel (v.Number m k ∷ []) ok = absurd (no_number g m k port (and_parts (suits g (v.Number m k)) true ok).0)
    no_order rel (v.Number m k ∷ x ∷ xs) ok = refl
    no_order rel (v.Port text ∷ xs) ok = refl
    no_order rel (v.Set name ∷ xs) ok = refl
    no_order rel (v.Group name ∷ xs) ok = refl

    port_stands : (rel : Rel) (xs : List Value) → list_all (suits g) xs ≡ true → stands_in here g rel xs n ≡ port_relates who id rel xs
    unfolding stands_in
    port_stands r.Eq xs ok = port_values xs ok
    port_stands r.Ne xs ok = ap not (port_values xs ok)
    port_stands rel xs ok = no_order rel xs ok

  -- ---- other fields

  module _ (g : Field) (other : is_port_field g ≡ false) where
    same_points : (x : Value) → suits g x ≡ true → points_of here g x ≡ points_of (numbers_of who) g x
    same_points (v.Number m k) ok = refl
    same_points (v.Port text) ok = absurd (false≢true (sym other ∙ ok))
    same_points (v.Set name) ok = ap (map (entry_bits g)) (sym (h.members.entries name))
    same_points (v.Group name) ok = absurd (false≢true (sym other ∙ ok))

    same_all : (xs : List Value) → list_all (suits g) xs ≡ true → points here g xs ≡ points (numbers_of who) g xs
    unfolding points
    same_all [] ok = refl
    same_all (x ∷ xs) ok =
        let parts = and_parts (suits g x) (list_all (suits g) xs) ok in
        λ i. same_points x parts.0 i ++ same_all xs parts.1 i

    stands_same : (rel : Rel) (xs : List Value) (n : ℕ) → list_all (suits g) xs ≡ true → stands_in here g rel xs n ≡ stands_in (numbers_of who) g rel xs n
    unfolding stands_in
    stands_same r.Eq xs n ok = ap (list_any (equals n)) (same_all xs ok)
    stands_same r.Ne xs n ok = ap (λ ps. not (list_any (equals n) ps)) (same_all xs ok)
    stands_same _ xs n ok = refl

  -- ---- comparisons, and matches of them

  came : (q : Name) → equals regs.in_port (port_bits here q) ≡ is_live_one (Some s.in_port) (who.live q)
  came = key_test keys hold who d (Some s.in_port) regs.in_port h.came (h.within.within reg.InPort)

  goes : (q : Name) → equals regs.out_port (port_bits here q) ≡ is_live_one s.out_port (who.live q)
  goes = key_test keys hold who d s.out_port regs.out_port h.goes (h.within.within reg.OutPort)

  no_address : (e : SetEntry) → (entry_bits f.Inport e ≡ None) × (entry_bits f.Outport e ≡ None)
  no_address (entry.Ip c) = (refl, refl)
  no_address (entry.Ether m) = (refl, refl)

  compared : (g : Field) (rel : Rel) (xs : List Value) → list_all (suits g) xs ≡ true → (has_needs g regs s.packet && stands_in here g rel xs (number_in g regs s.packet)) ≡ compares who s g rel xs
  compared f.Inport rel xs ok = port_stands f.Inport refl (λ e. (no_address e).0) (Some s.in_port) regs.in_port came rel xs ok
  compared f.Outport rel xs ok = port_stands f.Outport refl (λ e. (no_address e).1) s.out_port regs.out_port goes rel xs ok
  compared g rel xs ok = ap (λ b. has_needs g no_regs s.packet && b) (stands_same g refl rel xs (number_in g no_regs s.packet) ok)

  pub holds_same : (e : Expr) → are_suited e true ≡ true → holds here e regs s.packet ≡ holds_at who s e
  holds_same e ok =
      related (truth here regs s.packet) (truth_at who s) (λ g rel xs. list_all (suits g) xs) (λ a b. a ≡ b) (λ b. refl) compared
      (λ xs ys z. ap all_true (zipped xs ys z)) (λ xs ys z. ap one_true (zipped xs ys z)) e true ok
