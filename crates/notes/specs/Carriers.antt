-- What stands here is about how the code finds notes; nothing of it has to be believed.
pub mod Past
pub mod StateBefore
pub mod Rest
