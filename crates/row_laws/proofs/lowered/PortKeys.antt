-- The live keys of the ports of a datapath, found by name, and of which name a number is.
use Rattle.std.specs.Prelude.{◌≡◌, ◌≤◌, ◌==◌, ℕ, Bool, true, false, cond, List, [], ◌∷◌, map, filter, Option, Some, None, bit_and, filter_map, refl}
use Rattle.std.specs.Cmp.Lexicographic.{pointwise}
use Rattle.std.specs.List.Sorted.{IsStrictlySortedBy}
use Rattle.std.proofs.Common.{sym, ap, ◌∙◌, arith, inl, inr}
use Rattle.std.proofs.Math.Dec.{eqb as nat_eq}
use Rattle.std.proofs.lemmas.Bool.{cond-true, cond-false, eqb-true, eq-eqb, false≢true, false_from_ne_true}
use Rattle.ovn_base.proofs.AmongLaws.{among_left, among_filter_map}
use Rattle.ovn_base.proofs.ByNameLaws.{one_or_two, at_head, at_tail, at_among, above_among, below_apart}
use Rattle.ovn_base.proofs.MacLemmas.{and_all}
use Rattle.ovn_base.specs.declared.name.Name.{Name}
use Rattle.ovn_base.specs.names.ByName.{at, IsByName}
use Rattle.ovn_base.specs.names.SameName.{same_name, bytes_decides}
use Rattle.match_cubes.proofs.TernaryLaws.{same_tests}
use Rattle.match_cubes.specs.Holds.{equals}
use Rattle.match_cubes.specs.Points.{named, key_bits}
use Rattle.net_model.specs.Sights.{Roster, is_live_one}
use Rattle.tunnel_keys.proofs.HeldKeys.{found, on_datapath_key, is_held_port}
use Rattle.tunnel_keys.specs.Keys.{Keys, IsKeys, ports_on, held_port}
use Rattle.tunnel_keys.specs.declared.owner.Identity.{Identity}
use Rattle.tunnel_keys.specs.declared.owner.PortKey.{PortKey}
use Rattle.row_laws.specs.Numbers.{IsPortKey, NumberStandsFor}

-- ---- by name

-- the key, where the port is one of the datapath
abbrev pub key_on : Name → Option PortKey → Option ℕ
key_on d None = None
key_on d (Some k) = cond (same_name d k.datapath) (Some k.key) None

-- behind an entry its name does not stand again
none_again : (e : Name × PortKey) (es : List (Name × PortKey)) → IsByName (e ∷ es) → (q : Name) → q ≡ e.0 → at es q ≡ None
unfolding IsStrictlySortedBy
none_again e es s q own = by (at es q) refl
  where
    by : (o : Option PortKey) → at es q ≡ o → o ≡ None
    by None found = refl
    by (Some k) found = absurd (below_apart e.0 q (above_among e.0 q k es s.0 (at_among es q k found)) own)

-- those of the ports that are of the datapath, with their keys
abbrev listed : Name → Name × PortKey → List (Name × PortKey) → Bool → List (Name × ℕ)
listed d e es b = map (λ (x : Name × PortKey). (x.0, x.1.key)) (cond b (e ∷ filter (λ (x : Name × PortKey). same_name d x.1.datapath) es) (filter (λ (x : Name × PortKey). same_name d x.1.datapath) es))

module _ (d : Name) (e : Name × PortKey) (es : List (Name × PortKey)) (q : Name) where
  here_by : IsByName (e ∷ es) → named (ports_on es d) q ≡ key_on d (at es q) → q ≡ e.0 → (b : Bool) → same_name d e.1.datapath ≡ b → named (listed d e es b) q ≡ cond (same_name d e.1.datapath) (Some e.1.key) None
  unfolding named
  here_by s later own true on = cond-true (pointwise nat_eq e.0 q) (Some e.1.key) (named (ports_on es d) q) ((bytes_decides e.0 q).1 (sym own)) ∙ sym (cond-true (same_name d e.1.datapath) (Some e.1.key) None on)
  here_by s later own false on = later ∙ ap (key_on d) (none_again e es s q own) ∙ sym (cond-false (same_name d e.1.datapath) (Some e.1.key) None on)

  there_by : (q ≡ e.0 → ⊥) → (b : Bool) → named (listed d e es b) q ≡ named (ports_on es d) q
  unfolding named
  there_by apart true = cond-false (pointwise nat_eq e.0 q) (Some e.1.key) (named (ports_on es d) q) (false_from_ne_true (pointwise nat_eq e.0 q) (λ h. apart (sym ((bytes_decides e.0 q).0 h))))
  there_by apart false = refl

-- the key of a name is found among those of the datapath's ports, where the port is one of the datapath
pub named_on : (d : Name) (ports : List (Name × PortKey)) (q : Name) → IsByName ports → named (ports_on ports d) q ≡ key_on d (at ports q)
unfolding named IsStrictlySortedBy
named_on d [] q s = refl
named_on d (e ∷ es) q s = elim (one_or_two q e.0) [
  | inl own ↦ here_by d e es q s (named_on d es q s.1) own (same_name d e.1.datapath) refl ∙ sym (ap (key_on d) (ap (λ n. at (e ∷ es) n) own ∙ at_head e es))
  | inr apart ↦ there_by d e es q apart (same_name d e.1.datapath) ∙ named_on d es q s.1 ∙ sym (ap (key_on d) (at_tail e es q apart))
]

-- ---- by number

-- numbers of 16 bits are one where all of their bits are
fits_key : (n k : ℕ) → n ≤ 0xffff → k ≤ 0xffff → (bit_and n 0xffff == bit_and k 0xffff) ≡ (n == k)
fits_key n k small also = λ i. and_all n 16 (omega arith) i == and_all k 16 (omega arith) i

module _ (keys : Keys) (hold : IsKeys keys) where
  -- a live port's key has 16 bits
  key_small : (q : Name) (k : PortKey) → at keys.ports q ≡ Some k → k.key ≤ 0xffff
  key_small q k is =
      let m = at_among keys.ports q k is in
      let d = found (at keys.datapaths k.datapath) (hold.on_datapath (q, k) m) in
      let a = on_datapath_key q k d.0 in
      let held = among_left a (filter_map (held_port keys.datapaths) keys.ports) keys.retired_ports (among_filter_map (held_port keys.datapaths) (q, k) a keys.ports m (is_held_port keys.datapaths q k d.0 d.1)) in
      let low : k.key ≤ keys.port_range = (hold.port_keys a held).1 in
      let high : keys.port_range ≤ 32767 = hold.port_ranges.1 in
      omega arith

  module _ (who : Roster) (d : Name) (id : Option Identity) (n : ℕ) (stands : NumberStandsFor keys who d id n) (small : n ≤ 0xffff) where
    abbrev is_key : Option ℕ → Bool
    is_key o = equals n (key_bits o)

    number_by : (q : Name) (k : PortKey) → at keys.ports q ≡ Some k → (b : Bool) → same_name d k.datapath ≡ b → is_key (cond b (Some k.key) None) ≡ true → IsPortKey keys d q n
    number_by q k is true on h = (k, is, sym ((bytes_decides d k.datapath).0 on), sym (eqb-true n k.key (sym (fits_key n k.key small (key_small q k is)) ∙ h)))
    number_by q k is false on h = absurd (false≢true h)

    number_of : (q : Name) (o : Option PortKey) → at keys.ports q ≡ o → is_key (key_on d o) ≡ true → IsPortKey keys d q n
    number_of q None is h = absurd (false≢true h)
    number_of q (Some k) is h = number_by q k is (same_name d k.datapath) refl h

    with_number : (q : Name) → IsPortKey keys d q n → is_key (key_on d (at keys.ports q)) ≡ true
    with_number q p =
        ap (λ (o : Option PortKey). is_key (key_on d o)) p.1
        ∙ ap is_key (cond-true (same_name d p.0.datapath) (Some p.0.key) None ((bytes_decides d p.0.datapath).1 (sym p.2)))
        ∙ fits_key n p.0.key small (key_small q p.0 p.1)
        ∙ eq-eqb n p.0.key (sym p.3)

    -- the number is the key of a name's port exactly where the name is the port's for which it stands
    pub key_test : (q : Name) → is_key (named (ports_on keys.ports d) q) ≡ is_live_one id (who.live q)
    key_test q =
        ap is_key (named_on d keys.ports q hold.ports_in_order)
        ∙ same_tests (is_key (key_on d (at keys.ports q))) (is_live_one id (who.live q)) (λ h. stands.named q (number_of q (at keys.ports q) refl h)) (λ h. with_number q (stands.numbered q h))
