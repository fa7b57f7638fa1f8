-- In each object of a value that a text is, no two members have one name.
use Rattle.std.specs.Prelude.{◌≡◌, ◌≢◌, ℕ, List, Some, option_and_then, refl}
use Rattle.std.specs.Cmp.{tied_itself}
use Rattle.std.specs.Cmp.Lexicographic.{slice_cmp}
use Rattle.std.specs.Ordering.{nat_cmp, match_ordering, ordering_reverse}
use Rattle.std.specs.declared.cmp.Ordering.{Ordering}
use Rattle.std.specs.declared.cmp.Ordering.TheVariants.{Less, Equal, Greater}
use Rattle.std.proofs.Common.{ap, ◌∙◌, sym, subst}
use Rattle.std.proofs.lemmas.Cmp.{nat_list_cmp_total}
use Rattle.json.specs.Json as json
use Rattle.json.specs.Lex.{tokens}
use Rattle.serde_json.specs.Data.{Data, null, boolean, number, string, array, object, Items, no_items, item, Members, no_members, member, put}
use Rattle.serde_json.specs.Find.{get, get_member}
use Rattle.serde_json.specs.Read.{number_of, of_json, of_items, of_members, max_depth, read}
use Rattle.edit_reader.proofs.ReadSteps.{found, some_is, and_then_some, mapped_some}

-- the name is below those of all members
abbrev pub IsBelow : List ℕ → Members → Type 0
IsBelow k no_members = Unit {0}
IsBelow k (member l d ms) = (slice_cmp nat_cmp k l ≡ Less) × IsBelow k ms

-- in each object of it, the names are in strict order
abbrev mutual
  pub InOrder : Data → Type 0
  InOrder null = Unit {0}
  InOrder (boolean b) = Unit {0}
  InOrder (number n) = Unit {0}
  InOrder (string s) = Unit {0}
  InOrder (array ds) = ItemsInOrder ds
  InOrder (object ms) = MembersInOrder ms

  pub ItemsInOrder : Items → Type 0
  ItemsInOrder no_items = Unit {0}
  ItemsInOrder (item d ds) = InOrder d × ItemsInOrder ds

  pub MembersInOrder : Members → Type 0
  MembersInOrder no_members = Unit {0}
  MembersInOrder (member k d ms) = IsBelow k ms × InOrder d × MembersInOrder ms

below_further : (k l : List ℕ) (ms : Members) → slice_cmp nat_cmp k l ≡ Less → IsBelow l ms → IsBelow k ms
below_further k l no_members less h = tt
below_further k l (member n d ms) less h = (nat_list_cmp_total.trans k l n less h.0, below_further k l ms less h.1)

below_put : (l k : List ℕ) (d : Data) (ms : Members) → slice_cmp nat_cmp l k ≡ Less → IsBelow l ms → IsBelow l (put k d ms)
below_put l k d no_members less h = (less, tt)
below_put l k d (member n e ms) less h = by (slice_cmp nat_cmp k n) (below_put l k d ms less h.1)
  where
    by : (o : Ordering) → IsBelow l (put k d ms) → IsBelow l (match_ordering o (member k d (member n e ms)) (member n d ms) (member n e (put k d ms)))
    by Less rest = (less, h)
    by Equal rest = h
    by Greater rest = (h.0, rest)

put_in_order : (k : List ℕ) (d : Data) (ms : Members) → InOrder d → MembersInOrder ms → MembersInOrder (put k d ms)
put_in_order k d no_members own h = (tt, own, tt)
put_in_order k d (member l e ms) own h = by (slice_cmp nat_cmp k l) refl (put_in_order k d ms own h.2)
  where
    by : (o : Ordering) → slice_cmp nat_cmp k l ≡ o → MembersInOrder (put k d ms) → MembersInOrder (match_ordering o (member k d (member l e ms)) (member l d ms) (member l e (put k d ms)))
    by Less is rest = ((is, below_further k l ms is h.0), own, h)
    by Equal is rest = (h.0, own, h.2)
    by Greater is rest = (below_put l k d ms (nat_list_cmp_total.antisymm l k ∙ ap ordering_reverse is) h.0, h.1, rest)

-- ---- what is read

mutual
  json_in_order : (j : json.Json) (d : Data) → of_json j ≡ Some d → InOrder d
  json_in_order json.null d e = subst InOrder (some_is null d e) tt
  json_in_order (json.boolean b) d e = subst InOrder (some_is (boolean b) d e) tt
  json_in_order (json.number s) d e = let at = mapped_some number (number_of s) d e in subst InOrder at.2 tt
  json_in_order (json.string s) d e = subst InOrder (some_is (string s) d e) tt
  json_in_order (json.array js) d e =
      let at = mapped_some array (of_items js) d e in
      subst InOrder at.2 (items_in_order js at.0 at.1)
  json_in_order (json.object ms) d e =
      let at = mapped_some object (of_members ms no_members) d e in
      subst InOrder at.2 (members_in_order ms no_members at.0 tt at.1)

  items_in_order : (js : json.Items) (ds : Items) → of_items js ≡ Some ds → ItemsInOrder ds
  items_in_order json.no_items ds e = subst ItemsInOrder (some_is no_items ds e) tt
  items_in_order (json.item j js) ds e =
      let first = and_then_some _ (of_json j) ds e in
      let rest = mapped_some (item first.0) (of_items js) ds first.2 in
      subst ItemsInOrder rest.2 (json_in_order j first.0 first.1, items_in_order js rest.0 rest.1)

  members_in_order : (ms : json.Members) (before all : Members) → MembersInOrder before → of_members ms before ≡ Some all → MembersInOrder all
  members_in_order json.no_members before all h e = subst MembersInOrder (some_is before all e) h
  members_in_order (json.member k j ms) before all h e =
      let first = and_then_some _ (of_json j) all e in
      members_in_order ms (put k first.0 before) all (put_in_order k first.0 before (json_in_order j first.0 first.1) h) first.2

pub read_in_order : (text : List ℕ) (d : Data) → read text ≡ Some d → InOrder d
read_in_order text d e =
    let at = and_then_some of_json (option_and_then (λ p. json.if_last p.0 p.1) (json.value max_depth (tokens text))) d e in
    json_in_order at.0 d at.2

-- ---- what is found

member_in_order : (k : List ℕ) (ms : Members) (d : Data) → MembersInOrder ms → get_member k ms ≡ Some d → InOrder d
member_in_order k no_members d h e = absurd cc
member_in_order k (member l x ms) d h e = by (slice_cmp nat_cmp k l) (λ g. member_in_order k ms d h.2 g) e
  where
    by : (o : Ordering) → (get_member k ms ≡ Some d → InOrder d) → match_ordering o (get_member k ms) (found x) (get_member k ms) ≡ Some d → InOrder d
    by Less later g = later g
    by Equal later g = subst InOrder (some_is x d g) h.1
    by Greater later g = later g

pub found_in_order : (k : List ℕ) (o d : Data) → InOrder o → get k o ≡ Some d → InOrder d
found_in_order k null d h e = absurd cc
found_in_order k (boolean b) d h e = absurd cc
found_in_order k (number n) d h e = absurd cc
found_in_order k (string s) d h e = absurd cc
found_in_order k (array ds) d h e = absurd cc
found_in_order k (object ms) d h e = member_in_order k ms d h e

-- a name that is below another is another
pub below_apart : (k l : List ℕ) → slice_cmp nat_cmp k l ≡ Less → k ≢ l
below_apart k l less same =
    let tie : slice_cmp nat_cmp k k ≡ Equal = tied_itself nat_list_cmp_total k in
    let both : Less ≡ Equal = sym less ∙ subst (λ m. slice_cmp nat_cmp k m ≡ Equal) same tie in absurd cc
