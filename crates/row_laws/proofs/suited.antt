-- What lowering asks of rows.
pub mod EachRow
pub mod SuitedTerms
pub mod SuitedRows
pub mod LiveDatapaths
pub mod NarrowTerms
pub mod NarrowPorts
pub mod NarrowRows
pub mod NamedPorts
pub mod RisingActions
pub mod RisingRows
