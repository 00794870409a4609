pub mod EnoughKeys
