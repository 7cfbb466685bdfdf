pub mod Strings
pub mod Hmac
pub mod Took
