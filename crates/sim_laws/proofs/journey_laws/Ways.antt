-- A packet's way on a chassis: its ends are told there, it leaves these crossings, and the lists of others stay.
use Rattle.std.specs.Prelude.{◌≡◌, ◌≢◌, ◌++◌, ℕ, List, [], ◌∷◌, Option, Some, None, refl}
use Rattle.std.proofs.Common.{sym, ap, ◌∙◌, subst, append_assoc, append-nil}
use Rattle.std.proofs.lemmas.List.{append_cancel_left}
use Rattle.std.specs.BTreeMap.{is_at}
use Rattle.std.specs.Cmp.Lexicographic.{slice_cmp}
use Rattle.std.specs.Map.{keys_of}
use Rattle.std.specs.Ordering.{nat_cmp}
use Rattle.conn_table.specs.Connections.{ConnectionList}
use Rattle.conn_table.specs.Picks.{Chosen}
use Rattle.flow_table.specs.declared.flow.Cause.{Cause}
use Rattle.inet_packet.specs.declared.packet.Packet.{Packet}
use Rattle.net_model.specs.Config.{Config}
use Rattle.net_model.specs.Leads.{list_owners}
use Rattle.net_model.specs.Trail.{Trail, Lists, ListOwner, of_port, dnat_of, snat_of, with_list, with_list_at, write_list, End, leaves, is_dropped, crosses, picks_backend, picks_port, is_lost, crossing_in, crossings_in, tell, after_choice, Spot, Point, goes, stops, then, finally, unless}
use Rattle.net_model.specs.declared.crossing.Crossing.{Crossing}
use Rattle.ovn_base.proofs.ByNameLaws.{same_name, other_name}
use Rattle.ovn_base.specs.declared.name.Name.{Name}
use Rattle.ovn_base.specs.names.ByName.{at}
use Rattle.physical_flows.specs.Bindings.{router_homes}
use Rattle.sim_laws.proofs.EffectNames.{IsEndOn, AreEndsOn}
use Rattle.sim_laws.proofs.pipelines.SetValues.{set_apart, set_keys}
use Rattle.sim_laws.specs.pipelines.HeldLists.{list_there}

-- ---- lists

-- the list of another owner stays
other_at : (list : ConnectionList) (lists : List (Name × ConnectionList)) (q r : Name) → q ≢ r → at (with_list_at lists q list) r ≡ at lists r
other_at list lists q r apart =
    set_apart (is_at (slice_cmp nat_cmp q)) (is_at (slice_cmp nat_cmp r)) (λ n h. other_name r n (λ same. apart (same_name q n h ∙ sym same))) lists list

other_list : (list : ConnectionList) (lists : Lists) (owner other : ListOwner) → owner ≢ other → list_there (with_list lists owner list) other ≡ list_there lists other
other_list list lists (of_port q) (of_port r) apart = other_at list lists.ports q r (λ same. apart (ap of_port same))
other_list list lists (of_port q) (dnat_of r) apart = refl
other_list list lists (of_port q) (snat_of r) apart = refl
other_list list lists (dnat_of q) (of_port r) apart = refl
other_list list lists (dnat_of q) (dnat_of r) apart = other_at list lists.dnats q r (λ same. apart (ap dnat_of same))
other_list list lists (dnat_of q) (snat_of r) apart = refl
other_list list lists (snat_of q) (of_port r) apart = refl
other_list list lists (snat_of q) (dnat_of r) apart = refl
other_list list lists (snat_of q) (snat_of r) apart = other_at list lists.snats q r (λ same. apart (ap snat_of same))

-- and the same have lists
same_owners : (owner : ListOwner) (list : ConnectionList) (lists : Lists) → list_owners (with_list lists owner list) ≡ list_owners lists
same_owners (of_port q) list lists = ap (λ (ks : List Name). (ks, keys_of lists.dnats, keys_of lists.snats)) (set_keys (is_at (slice_cmp nat_cmp q)) lists.ports list)
same_owners (dnat_of r) list lists = ap (λ (ks : List Name). (keys_of lists.ports, ks, keys_of lists.snats)) (set_keys (is_at (slice_cmp nat_cmp r)) lists.dnats list)
same_owners (snat_of r) list lists = ap (λ (ks : List Name). (keys_of lists.ports, keys_of lists.dnats, ks)) (set_keys (is_at (slice_cmp nat_cmp r)) lists.snats list)

-- the list is that of a port that is bound to the chassis, or of a gateway router that is at home there
abbrev pub IsHere : Config → Name → ListOwner → Type 0
IsHere c here (of_port q) = at c.bindings q ≡ Some here
IsHere c here (dnat_of r) = at (router_homes c) r ≡ Some here
IsHere c here (snat_of r) = at (router_homes c) r ≡ Some here

-- ---- ends

ends_both : (here : Name) (n : ℕ) (es fs : List End) → AreEndsOn here n es → AreEndsOn here n fs → AreEndsOn here n (es ++ fs)
ends_both here n [] fs h k = k
ends_both here n (e ∷ es) fs h k = (h.0, ends_both here n es fs h.1 k)

crossing_first : (e : End) (xs ys : List Crossing) → crossing_in e (xs ++ ys) ≡ crossing_in e xs ++ ys
crossing_first (leaves port p) xs ys = refl
crossing_first (is_dropped datapath port why) xs ys = refl
crossing_first (crosses here x) xs ys = refl
crossing_first (picks_backend datapath vip backend) xs ys = refl
crossing_first (picks_port router port) xs ys = refl
crossing_first (is_lost n) xs ys = refl

pub crossings_append : (es fs : List End) → crossings_in (es ++ fs) ≡ crossings_in es ++ crossings_in fs
crossings_append [] fs = refl
crossings_append (e ∷ es) fs = ap (crossing_in e) (crossings_append es fs) ∙ crossing_first e (crossings_in es) (crossings_in fs)

-- ---- ways

module _ (c : Config) (here : Name) (n : ℕ) where
  -- from one trail to another
  pub record WayOn (xs : List Crossing) (t u : Trail) : Type 0 where
    pub more : List End
    pub ends : u.ends ≡ t.ends ++ more
    pub on : AreEndsOn here n more
    pub crossing : crossings_in more ≡ xs
    pub others : (owner : ListOwner) → ¬ IsHere c here owner → list_there u.lists owner ≡ list_there t.lists owner
    pub owners : list_owners u.lists ≡ list_owners t.lists

  pub stays : (t : Trail) → WayOn [] t t
  stays t = record { more = []; ends = sym (append-nil t.ends); on = tt; crossing = refl; others = λ owner away. refl; owners = refl }

  pub both : (xs ys : List Crossing) (t u v : Trail) → WayOn xs t u → WayOn ys u v → WayOn (xs ++ ys) t v
  both xs ys t u v a b = record {
    more = a.more ++ b.more;
    ends = b.ends ∙ ap (λ (es : List End). es ++ b.more) a.ends ∙ append_assoc t.ends a.more b.more;
    on = ends_both here n a.more b.more a.on b.on;
    crossing = crossings_append a.more b.more ∙ ap (λ (zs : List Crossing). zs ++ crossings_in b.more) a.crossing ∙ ap (λ (zs : List Crossing). xs ++ zs) b.crossing;
    others = λ owner away. b.others owner away ∙ a.others owner away;
    owners = b.owners ∙ a.owners;
  }

  -- from one trail to another there is one
  pub one_way : (xs ys : List Crossing) (t u : Trail) → WayOn xs t u → WayOn ys t u → xs ≡ ys
  one_way xs ys t u a b = sym a.crossing ∙ ap crossings_in (append_cancel_left t.ends a.more b.more (sym a.ends ∙ b.ends)) ∙ b.crossing

  pub told : (e : End) (t : Trail) → IsEndOn here n e → WayOn (crossing_in e []) t (tell e t)
  told e t on = record { more = e ∷ []; ends = refl; on = (on, tt); crossing = refl; others = λ owner away. refl; owners = refl }

  pub written : (owner : ListOwner) (list : ConnectionList) (t : Trail) → IsHere c here owner → WayOn [] t (write_list owner list t)
  written owner list t home = record {
    more = [];
    ends = sym (append-nil t.ends);
    on = tt;
    crossing = refl;
    others = λ other away. other_list list t.lists owner other (λ same. away (subst (IsHere c here) same home));
    owners = same_owners owner list t.lists;
  }

  pub chosen : {X : Type 0} (choice : Chosen X) (t : Trail) → WayOn [] t (after_choice choice t)
  chosen choice t = record { more = []; ends = sym (append-nil t.ends); on = tt; crossing = refl; others = λ owner away. refl; owners = refl }

  -- ---- pieces, on which nothing crosses

  abbrev pub PointOn : Trail → Point → Type 0
  PointOn t (goes u p) = WayOn [] t u
  PointOn t (stops u) = WayOn [] t u

  pub point_on : (t u : Trail) (a : Point) → WayOn [] t u → PointOn u a → PointOn t a
  point_on t u (goes v p) h k = both [] [] t u v h k
  point_on t u (stops v) h k = both [] [] t u v h k

  pub then_on : (t : Trail) (a : Point) (f : Trail → Packet → Point) → PointOn t a → ((u : Trail) (q : Packet) → PointOn u (f u q)) → PointOn t (then a f)
  then_on t (goes u q) f h k = point_on t u (f u q) h (k u q)
  then_on t (stops u) f h k = h

  pub finally_on : (t : Trail) (a : Point) (f : Trail → Packet → Trail) → PointOn t a → ((u : Trail) (q : Packet) → WayOn [] u (f u q)) → WayOn [] t (finally a f)
  finally_on t (goes u q) f h k = both [] [] t u (f u q) h (k u q)
  finally_on t (stops u) f h k = h

  pub unless_on : (why : Option Cause) (spot : Spot) (t : Trail) (p : Packet) → PointOn t (unless why spot t p)
  unless_on None spot t p = stays t
  unless_on (Some why) spot t p = told (is_dropped spot.datapath spot.port why) t tt
