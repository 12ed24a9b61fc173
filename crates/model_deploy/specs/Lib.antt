pub mod Deployment
