-- Homes as the compiler knows them.
use Rattle.net_model.specs.Config.{Home, nowhere, on, everywhere}
use Rattle.physical_flows.specs.declared.place.Place.{Place}
use Rattle.physical_flows.specs.declared.place.Place.TheVariants as place

abbrev pub home_at : Place → Home
home_at place.Nowhere = nowhere
home_at (place.On chassis) = on chassis
home_at place.Everywhere = everywhere
