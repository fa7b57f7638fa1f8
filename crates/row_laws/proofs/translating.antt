-- Routers that translate.
pub mod AnyRows
pub mod DnatRows
pub mod SnatRows
pub mod EachAgreesOnAny
pub mod TakenByAny
pub mod UndoAndFind
pub mod DnatAtAny
pub mod SnatAtAny
pub mod EachAtAny
