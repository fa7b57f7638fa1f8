-- What the look-ups of a switch by its name found, when it has a record and a key.
use Rattle.std.specs.Prelude.{◌≡◌, ℕ, true, Option, Some, None, is_some}
use Rattle.std.specs.Borrow.{Bor}
use Rattle.std.specs.Option.{option_copied, option_map}
use Rattle.std.proofs.Common.{sym, ap, ◌∙◌}
use Rattle.std.proofs.lemmas.Bool.{false≢true}
use Rattle.std.proofs.lemmas.Option.{same_Some}
use Rattle.ovn_base.specs.declared.name.Name.{Name}
use Rattle.ovn_base.specs.declared.ports.Ports.{Ports}
use Rattle.ovn_base.specs.names.ByName.{at}
use Rattle.tunnel_keys.specs.Keys.{Keys, ports_on}
use Rattle.tunnel_keys.specs.declared.owner.DatapathKey.{DatapathKey}
use Rattle.physical_flows.specs.Numbers.{datapath_number}
use Rattle.physical_flows.proofs.KeyLaws.{of_number}

-- what a look-up that isn't empty found
pub found_record : {X : Type 0} (found : Option (Bor X)) (o : Option X) → option_copied found ≡ o → is_some found ≡ true → (x : X) × (o ≡ Some x)
found_record None o e h = absurd (false≢true h)
found_record (Some r) o e h = (r.now, sym e)

-- the ports that are listed with a key
pub listed_ports : (keys : Keys) (a : Name) (dp : ℕ) (listed : Ports) → Some dp ≡ datapath_number keys a
    → Some listed ≡ option_map (λ (k : DatapathKey). record { list = ports_on keys.ports a }) (at keys.datapaths a) → listed.list ≡ ports_on keys.ports a
listed_ports keys a dp listed number list =
    let live = of_number (λ (k : DatapathKey). k.key) (at keys.datapaths a) dp (sym number) in
    let same : listed ≡ record { list = ports_on keys.ports a } =
    same_Some listed (record { list = ports_on keys.ports a }) (list ∙ ap (λ (o : Option DatapathKey). option_map (λ k. record { list = ports_on keys.ports a }) o) live.1) in
    ap (λ (p : Ports). p.list) same
