-- What stands here is about how the code draws pictures; nothing of it has to be believed.
pub mod Drawing
pub mod Rest
