-- Which numbers stand for ports: the live key of a port for that port, and what is no port's key for none.
use Rattle.std.specs.Prelude.{◌≡◌, ◌≤◌, ◌<◌, ◌⊎◌, ℕ, true, Option, Some, None, option_map, filter_map}
use Rattle.std.proofs.Common.{refl, sym, ap, ◌∙◌, subst, arith, inl, inr}
use Rattle.std.proofs.lemmas.Bool.{false≢true}
use Rattle.std.proofs.lemmas.Option.{none-some, same_Some}
use Rattle.ovn_base.proofs.AmongLaws.{among_left, among_filter_map}
use Rattle.ovn_base.proofs.ByNameLaws.{at_among}
use Rattle.ovn_base.specs.declared.limits.TheConstants.{MAX_PORT_KEY}
use Rattle.ovn_base.specs.declared.name.Name.{Name}
use Rattle.ovn_base.specs.lists.Among.{Among}
use Rattle.ovn_base.specs.names.ByName.{at}
use Rattle.nb_records.specs.declared.switch.SwitchPort.{SwitchPort}
use Rattle.tunnel_keys.proofs.HeldKeys.{found, on_datapath_key, is_held_port}
use Rattle.tunnel_keys.specs.Keys.{Keys, IsKeys, held_port, held_ports}
use Rattle.tunnel_keys.specs.Same.{identity_exact, identity_own}
use Rattle.tunnel_keys.specs.declared.owner.DatapathKey.{DatapathKey}
use Rattle.tunnel_keys.specs.declared.owner.Identity.{Identity}
use Rattle.tunnel_keys.specs.declared.owner.PortKey.{PortKey}
use Rattle.net_model.specs.Config.{port_identity}
use Rattle.net_model.specs.Sights.{Roster, roster_of, is_live_one}
use Rattle.row_laws.proofs.records.ValidPorts.{port_named}
use Rattle.row_laws.specs.Numbers.{IsPortKey, NumberStandsFor, PortStandsLaw, NoneStandsLaw}

module _ (keys : Keys) (hold : IsKeys keys) where
  -- a live port's key is held, beside the live datapath of its name
  held_at : (q : Name) (k : PortKey) (d : DatapathKey) → at keys.ports q ≡ Some k → at keys.datapaths k.datapath ≡ Some d → Among (on_datapath_key q k d) (held_ports keys)
  held_at q k d is on =
      among_left (on_datapath_key q k d) (filter_map (held_port keys.datapaths) keys.ports) keys.retired_ports
      (among_filter_map (held_port keys.datapaths) (q, k) (on_datapath_key q k d) keys.ports (at_among keys.ports q k is) (is_held_port keys.datapaths q k d on))

  on_datapath : (q : Name) (k : PortKey) → at keys.ports q ≡ Some k → (d : DatapathKey) × (at keys.datapaths k.datapath ≡ Some d)
  on_datapath q k is = found (at keys.datapaths k.datapath) (hold.on_datapath (q, k) (at_among keys.ports q k is))

  -- a live key of a datapath is one name's
  one_name : (d p q : Name) (n : ℕ) → IsPortKey keys d p n → IsPortKey keys d q n → p ≡ q
  one_name d p q n a b =
      let x = on_datapath p a.0 a.1 in
      let y = on_datapath q b.0 b.1 in
      let same : a.0.datapath ≡ b.0.datapath = a.2 ∙ sym b.2 in
      let birth : x.0 ≡ y.0 = same_Some x.0 y.0 (sym x.1 ∙ ap (at keys.datapaths) same ∙ y.1) in
      ap (λ (i : Identity). i.name) (hold.ports_apart (on_datapath_key p a.0 x.0) (on_datapath_key q b.0 y.0) (held_at p a.0 x.0 a.1 x.1) (held_at q b.0 y.0 b.1 y.1)
      (λ i. record { name = same i; birth = (birth i).birth }) (a.3 ∙ sym b.3))

  key_range : (d q : Name) (n : ℕ) → IsPortKey keys d q n → (1 ≤ n) × (n ≤ 32767)
  key_range d q n a =
      let x = on_datapath q a.0 a.1 in
      let range = hold.port_keys (on_datapath_key q a.0 x.0) (held_at q a.0 x.0 a.1 x.1) in
      let high : keys.port_range ≤ 32767 = hold.port_ranges.1 in
      let is : a.0.key ≡ n = a.3 in
      (omega (arith, range.0, is), omega (arith, range.1, high, is))

  -- ---- in any roster

  -- the live key of the port's name stands for the port, where a name stands for a port of that name alone
  pub key_stands : (who : Roster) (d : Name) (id : Identity) → who.live id.name ≡ Some id → ((q : Name) (other : Identity) → who.live q ≡ Some other → other.name ≡ q) → (n : ℕ) → IsPortKey keys d id.name n
      → NumberStandsFor keys who d (Some id) n
  key_stands who d id live own n key = record {
    named = λ q other. ap (λ m. is_live_one (Some id) (who.live m)) (sym (one_name d id.name q n key other)) ∙ ap (is_live_one (Some id)) live ∙ identity_own id;
    numbered = λ q h. by q (who.live q) refl h;
  }
    where
      by : (q : Name) (o : Option Identity) → who.live q ≡ o → is_live_one (Some id) o ≡ true → IsPortKey keys d q n
      by q None is h = absurd (false≢true h)
      by q (Some other) is h = subst (λ m. IsPortKey keys d m n) (ap (λ (x : Identity). x.name) (identity_exact id other h) ∙ own q other is) key

  -- what is no key stands for none
  pub no_key_stands : (who : Roster) (d : Name) (n : ℕ) → (n ≡ 0) ⊎ (MAX_PORT_KEY < n) → NumberStandsFor keys who d None n
  no_key_stands who d n outside = record {
    named = λ q key. let range = key_range d q n key in absurd (elim outside [ inl zero' ↦ omega (arith, range.0, zero') | inr high ↦ omega (arith, range.1, high) ]);
    numbered = λ q h. absurd (false≢true h);
  }

-- ---- ports of switches

-- the name of an identity that a name stands for
pub named_by : {X : Type 0} (identity : X → Identity) (o : Option X) (name : Name) → ((x : X) → o ≡ Some x → (identity x).name ≡ name) → (id : Identity) → option_map identity o ≡ Some id → id.name ≡ name
named_by identity None name own id is = absurd (none-some id is)
named_by identity (Some x) name own id is = ap (λ (y : Identity). y.name) (sym (same_Some (identity x) id is)) ∙ own x refl

pub port_stands : PortStandsLaw
port_stands net keys valid hold i there n key =
    key_stands keys hold (roster_of net) i.switch (port_identity i) (ap (λ (o : Option SwitchPort). option_map port_identity o) there) (λ q id is. named_by port_identity (at net.switch_ports q) q (λ port e. port_named net valid q port e) id is) n key

pub none_stands : NoneStandsLaw
none_stands net keys hold d n outside = no_key_stands keys hold (roster_of net) d n outside
