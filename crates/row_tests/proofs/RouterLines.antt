-- The rows around a router have their lines, by computing.
use Rattle.std.specs.Fmt.{digits}
use Rattle.match_language.specs.Spelling.{number_text, prefix_below, mask_text, value_text, values_text}
use Rattle.row_tests.proofs.Texts.{texts}
use Rattle.row_tests.specs.RouterLines as line

pub for_router : line.for_router
unfolding digits number_text prefix_below mask_text value_text values_text
for_router = simp texts

pub answered : line.answered
unfolding digits number_text prefix_below mask_text value_text values_text
answered = simp texts

pub for_itself : line.for_itself
unfolding digits number_text prefix_below mask_text value_text values_text
for_itself = simp texts

pub network : line.network
unfolding digits number_text prefix_below mask_text value_text values_text
network = simp texts

pub default_route : line.default_route
unfolding digits number_text prefix_below mask_text value_text values_text
default_route = simp texts

pub neighbour : line.neighbour
unfolding digits number_text prefix_below mask_text value_text values_text
neighbour = simp texts

pub looked_up_behind : line.looked_up_behind
unfolding digits number_text prefix_below mask_text value_text values_text
looked_up_behind = simp texts

pub refused : line.refused
unfolding digits number_text prefix_below mask_text value_text values_text
refused = simp texts

pub undone : line.undone
unfolding digits number_text prefix_below mask_text value_text values_text
undone = simp texts

pub known_connections : line.known_connections
unfolding digits number_text prefix_below mask_text value_text values_text
known_connections = simp texts

pub found : line.found
unfolding digits number_text prefix_below mask_text value_text values_text
found = simp texts

pub known_sources : line.known_sources
unfolding digits number_text prefix_below mask_text value_text values_text
known_sources = simp texts

pub snat : line.snat
unfolding digits number_text prefix_below mask_text value_text values_text
snat = simp texts

pub dnat : line.dnat
unfolding digits number_text prefix_below mask_text value_text values_text
dnat = simp texts

pub resolver : line.resolver
unfolding digits number_text prefix_below mask_text value_text values_text
resolver = simp texts
